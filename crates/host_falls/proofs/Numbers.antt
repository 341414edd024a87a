-- What is left to do is a sum, and when it is less.
use Rattle.std.proofs.Common.{◌≡◌, ◌<◌, ◌+◌, ◌-◌, ◌*◌, ℕ, refl}
use Rattle.std.specs.Prelude.{length}
use Rattle.world_state.specs.Path.{PathState}
use Rattle.world_state.specs.Work.{answer_cost, hit_waits, hits_left, left_on_path, request_cost, stop_left, ticks_left, unanswered, waiting, work_left}

abbrev pub words_left : PathState → ℕ
words_left p = length p.script.ready - p.script.used

pub left_is : (p : PathState)
    → left_on_path p
    ≡ answer_cost * (unanswered p + hits_left p) + words_left p + request_cost * waiting p + 3 * work_left p + stop_left p + hit_waits p + ticks_left p.regs
unfolding left_on_path
left_is p = refl

-- by plain numbers: answered and befallen, words, waiting, work, and the rest
pub falls_by : (p p' : PathState) (u u' r r' w w' k k' s s' b b' t t' : ℕ)
    → unanswered p + hits_left p ≡ u → unanswered p' + hits_left p' ≡ u' → words_left p ≡ r → words_left p' ≡ r' → waiting p ≡ w → waiting p' ≡ w'
    → work_left p ≡ k → work_left p' ≡ k' → stop_left p ≡ s → stop_left p' ≡ s' → hit_waits p ≡ b → hit_waits p' ≡ b'
    → ticks_left p.regs ≡ t → ticks_left p'.regs ≡ t'
    → 12800200 * u' + r' + 200000 * w' + 3 * k' + s' + b' + t' < 12800200 * u + r + 200000 * w + 3 * k + s + b + t
    → left_on_path p' < left_on_path p
falls_by p p' u u' r r' w w' k k' s s' b b' t t' eu eu' er er' ew ew' ek ek' es es' eb eb' et et' less =
    rw (left_is p, left_is p', eu, eu', er, er', ew, ew', ek, ek', es, es', eb, eb', et, et') less
