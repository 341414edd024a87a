-- What was read of a line, and that no other request follows.
use Rattle.std.proofs.Common.{◌≡◌, ℕ, ◌+◌, ◌<◌, ◌≤◌, List, [], ◌∷◌, ◌++◌, length, take, drop, refl, sym, ap, subst, ◌∙◌, arith, append_assoc}
use Rattle.std.specs.Prelude.{All, sum_by}
use Rattle.std.proofs.lemmas.List.{append-nil, length-append, take-append-drop}
use Rattle.std.proofs.lemmas.List.Elements.{All-push, All-append}
use Rattle.std.proofs.lemmas.List.Sums.{sum_by_push}
use Rattle.storage_model.specs.declared.block.Block.{Block}
use Rattle.storage_model.specs.declared.plan.Job.{Job}
use Rattle.storage_model.specs.Plan.{blocks_of}
use Rattle.text_words.specs.Words.{line, spaced, words_of}
use Rattle.text_words.proofs.Lines.{IsFree, first_part, line_free, not_free}
use Rattle.request_text.specs.declared.read.Requests.{Requests}
use Rattle.request_text.specs.Lines.{Follows, IsAdded, IsFront, IsSound, Lists, NoneFollows}
use Rattle.request_text.specs.Meaning.{AreRequests}
use Rattle.request_text.specs.Requests.{ArePlaced, IsBlock, IsJob, IsPlacedAt, digits_of, job_words, listed_by, requests_text}
use Rattle.request_text.proofs.Digits.{digits_of-word}
use Rattle.request_text.proofs.JobLists.{placed_push, placed_room, requests_push}
use Rattle.request_text.proofs.JobTexts.{job_words-plain, line_from_words, same_job, words_from_line}
use Rattle.text_words.proofs.LineTexts.{line_break}

pub no_request : (place : ℕ) (jobs : List Job) (blocks : List Block) (text : List ℕ) → place ≡ length blocks
    → ((job : Job) (digits : List ℕ) → IsJob job → IsPlacedAt place job → All (λ b. 32 < b) digits → ¬ (text ≡ spaced (job_words digits job)))
    → (job : Job) (more : List Block) → ¬ Follows jobs blocks text job more
no_request place jobs blocks text is none job more follows =
    none job (digits_of more) follows.valid (subst (λ (n : ℕ). IsPlacedAt n job) (sym is) follows.placed) (digits_of-word more follows.each) follows.text

-- the request that follows is the one that was read
pub one_read : (place : ℕ) (jobs : List Job) (blocks : List Block) (text digits : List ℕ) (read : Job) → place ≡ length blocks → IsJob read → IsPlacedAt place read → words_of text ≡ job_words digits read
    → (job : Job) (more : List Block) → Follows jobs blocks text job more → (read ≡ job) × (job_words digits read ≡ job_words (digits_of more) job)
one_read place jobs blocks text digits read is valid placed words job more follows =
    let same = sym words ∙ words_from_line text job (digits_of more) follows.valid (digits_of-word more follows.each) follows.text in
    (same_job place read job digits (digits_of more) valid follows.valid placed (subst (λ (n : ℕ). IsPlacedAt n job) (sym is) follows.placed) same, same)

-- and it lists these blocks
pub lists_read : (digits text : List ℕ) (jobs : List Job) (blocks : List Block) (read job : Job) (more : List Block) → (read ≡ job) × (job_words digits read ≡ job_words (digits_of more) job)
    → Follows jobs blocks text job more → Lists digits read more
lists_read digits text jobs blocks read job more one follows = record {
  each = follows.each;
  long = follows.long ∙ ap listed_by (sym one.0);
  text = one.1 ∙ ap (job_words (digits_of more)) (sym one.0);
}

pub read_follows : (place : ℕ) (jobs : List Job) (blocks : List Block) (text digits : List ℕ) (job : Job) (more : List Block) → place ≡ length blocks → IsJob job → IsPlacedAt place job
    → words_of text ≡ job_words digits job → Lists digits job more → length jobs < 65536 → sum_by blocks_of jobs + blocks_of job ≤ 131072 → Follows jobs blocks text job more
read_follows place jobs blocks text digits job more is valid placed words lists count moved = record {
  valid = valid;
  placed = subst (λ (n : ℕ). IsPlacedAt n job) is placed;
  each = lists.each;
  long = lists.long;
  text = line_from_words text job (digits_of more) (words ∙ lists.text);
  count = count;
  moved = moved;
}

-- requests with one more
requests_more : (jobs : List Job) (blocks : List Block) (text : List ℕ) (job : Job) (more : List Block) → AreRequests jobs blocks → Follows jobs blocks text job more → AreRequests (jobs ++ job ∷ []) (blocks ++ more)
requests_more jobs blocks text job more within follows = record {
  each = All-push IsJob jobs job within.each follows.valid;
  listed = All-append IsBlock blocks more within.listed follows.each;
  placed = subst (λ (n : ℕ). ArePlaced 0 (jobs ++ job ∷ []) n) (ap (λ n. length blocks + n) (sym follows.long) ∙ sym (length-append blocks more)) (placed_push 0 (length blocks) jobs job within.placed follows.placed);
  count = omega (arith, follows.count, length-append jobs (job ∷ []));
  moved = omega (arith, follows.moved, sum_by_push blocks_of jobs job);
}

pub sound_more : (old new : Requests) (text : List ℕ) → IsSound old → IsAdded old text new → IsSound new
sound_more old new text sound added =
    let within = requests_more old.jobs old.blocks text added.job added.listed sound.within added.follows in
    let jobs = subst (λ (l : List Job). AreRequests l (old.blocks ++ added.listed)) (sym added.jobs) within in
    record {
      within = subst (λ (l : List Block). AreRequests new.jobs l) (sym added.blocks) jobs;
      sum = added.moved ∙ ap (λ n. n + blocks_of added.job) sound.sum ∙ sym (sum_by_push blocks_of old.jobs added.job) ∙ ap (sum_by blocks_of) (sym added.jobs);
    }

-- the text with one request more
pub text_more : (old new : Requests) (whole text rest after : List ℕ) → IsSound old → IsAdded old text new → rest ≡ text ++ 10 ∷ after → whole ≡ requests_text old.blocks old.jobs ++ rest
    → whole ≡ requests_text new.blocks new.jobs ++ after
text_more old new whole text rest after sound added parts is =
    let job = added.job in
    let more = added.listed in
    let push = requests_push old.jobs job old.blocks more sound.within.placed added.follows.placed added.follows.long in
    let words = job_words (digits_of more) job in
    let begins : text ++ 10 ∷ after ≡ line words ++ after = ap (λ t. t ++ 10 ∷ after) added.follows.text ∙ sym (line_break words after) in
    let same : requests_text (old.blocks ++ more) (old.jobs ++ job ∷ []) ≡ requests_text new.blocks new.jobs =
    ap (λ (l : List Job). requests_text (old.blocks ++ more) l) (sym added.jobs) ∙ ap (λ (l : List Block). requests_text l new.jobs) (sym added.blocks) in
    is ∙ ap (λ t. requests_text old.blocks old.jobs ++ t) (parts ∙ begins) ∙ sym (append_assoc (requests_text old.blocks old.jobs) (line words) after)
    ∙ ap (λ t. t ++ after) (sym push ∙ same)

-- a text without a line feed
pub none_without : (jobs : List Job) (blocks : List Block) (rest : List ℕ) → IsFree 10 rest → NoneFollows jobs blocks rest
none_without jobs blocks rest free text after job more parts follows =
    not_free 10 text after (subst (λ (t : List ℕ). IsFree 10 t) parts free)

-- only the first line may be a request
pub none_behind : (jobs : List Job) (blocks : List Block) (rest front behind : List ℕ) → rest ≡ front ++ 10 ∷ behind → IsFree 10 front
    → ((job : Job) (more : List Block) → ¬ Follows jobs blocks front job more) → NoneFollows jobs blocks rest
none_behind jobs blocks rest front behind is free none text after job more parts follows =
    let words = job_words-plain job (digits_of more) follows.valid (digits_of-word more follows.each) in
    let clear = subst (λ (t : List ℕ). IsFree 10 t) (sym follows.text) (line_free (job_words (digits_of more) job) words) in
    let same = first_part 10 text front after behind clear free (sym parts ∙ is) in
    none job more (subst (λ (t : List ℕ). Follows jobs blocks t job more) same.0 follows)

-- not more blocks are listed than a text may move
pub blocks_fit : (requests : Requests) → IsSound requests → length requests.blocks ≤ 131072
blocks_fit requests sound = omega (arith, placed_room (length requests.blocks) requests.jobs sound.within.placed, sound.within.moved)

pub front_part : (bytes front more : List ℕ) (n : ℕ) → front ≡ take n bytes → more ≡ drop n bytes → length front ≡ n → n ≡ 16777216 → IsFront bytes front
front_part bytes front more n is rest long limit = record {
  more = more;
  parts = sym (take-append-drop n bytes) ∙ ap (λ t. t ++ drop n bytes) (sym is) ∙ ap (λ t. front ++ t) (sym rest);
  within = omega arith;
  all = λ some. long ∙ limit;
}

pub front_all : (bytes : List ℕ) → length bytes ≤ 16777216 → IsFront bytes bytes
front_all bytes fits = record { more = []; parts = sym (append-nil bytes); within = fits; all = λ some. absurd (some refl) }
