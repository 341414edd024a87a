-- Requests one after the other, with the list of their blocks.
use Rattle.std.proofs.Common.{◌≡◌, ℕ, ◌+◌, ◌≤◌, zero, suc, List, [], ◌∷◌, ◌++◌, length, take, drop, refl, sym, ap, subst, ◌∙◌, arith, append_assoc}
use Rattle.std.specs.Prelude.{All, sum_by}
use Rattle.std.proofs.Math.Seq.{take-add}
use Rattle.std.proofs.lemmas.Grind.{flat_map-append}
use Rattle.std.proofs.lemmas.List.{append-nil, length-append, length-drop, length-take, take-append-drop, take-append-le, drop-append-le}
use Rattle.std.proofs.lemmas.List.Elements.{All-nil, All-cons, All-head, All-tail, All-take, All-drop}
use Rattle.std.proofs.lemmas.List.Sums.{sum_by-append, sum_by-le-sum_by}
use Rattle.storage_model.specs.declared.block.Block.{Block}
use Rattle.storage_model.specs.declared.plan.Fill.TheVariants.{Same, Ramp, Listed}
use Rattle.storage_model.specs.declared.plan.Job.{Job}
use Rattle.storage_model.specs.declared.plan.Job.TheVariants.{Read, Write, Flush, Barrier, Status}
use Rattle.storage_model.specs.Plan.{IsValidJob, blocks_of}
use Rattle.text_words.specs.Words.{line}
use Rattle.request_text.specs.Requests.{ArePlaced, IsBlock, IsJob, IsPlacedAt, digits_of, job_words, listed_by, named_blocks, request_text, requests_text}
use Rattle.request_text.proofs.JobTexts.{Request, one_request, request_words-plain}
use Rattle.text_words.proofs.LineTexts.{line_is, line_long}

-- lists, taken apart
take_all : {X : Type 0} (xs : List X) → take (length xs) xs ≡ xs
take_all [] = refl
take_all (x ∷ xs) = ap (λ l. x ∷ l) (take_all xs)

take_none : {X : Type 0} (xs : List X) (n : ℕ) → n ≡ 0 → take n xs ≡ []
take_none xs zero none = refl
take_none xs (suc n) none = absurd (omega arith)

take_sum : {X : Type 0} (m n : ℕ) (xs : List X) → take (m + n) xs ≡ take m xs ++ take n (drop m xs)
take_sum m n xs = take-add m n xs

pub All-front : {X : Type 0} (P : X → Type 0) (xs ys : List X) → All P (xs ++ ys) → All P xs
All-front P [] ys all = All-nil P
All-front P (x ∷ xs) ys all = All-cons P x xs (All-head P x (xs ++ ys) all) (All-front P xs ys (All-tail P x (xs ++ ys) all))

pub All-back : {X : Type 0} (P : X → Type 0) (xs ys : List X) → All P (xs ++ ys) → All P ys
All-back P [] ys all = all
All-back P (x ∷ xs) ys all = All-back P xs ys (All-tail P x (xs ++ ys) all)

-- the end is behind all that is listed
placed_sum : (at end : ℕ) (jobs : List Job) → ArePlaced at jobs end → end ≡ at + sum_by listed_by jobs
placed_sum at end [] placed = omega (arith, placed)
placed_sum at end (job ∷ jobs) placed = omega (arith, placed_sum (at + listed_by job) end jobs placed.1, sum_by-append listed_by (job ∷ []) jobs)

listed_le : (job : Job) → listed_by job ≤ blocks_of job
listed_le (Read sector count high) = omega arith
listed_le (Write sector count (Same byte) forced reliable high) = omega arith
listed_le (Write sector count (Ramp start) forced reliable high) = omega arith
listed_le (Write sector count (Listed place) forced reliable high) = omega arith
listed_le Flush = omega arith
listed_le Barrier = omega arith
listed_le Status = omega arith

-- not more blocks are listed than moved
pub placed_room : (end : ℕ) (jobs : List Job) → ArePlaced 0 jobs end → end ≤ sum_by blocks_of jobs
placed_room end jobs placed = omega (arith, placed_sum 0 end jobs placed, sum_by-le-sum_by listed_by blocks_of jobs listed_le)

placed_le : (at end : ℕ) (jobs : List Job) → ArePlaced at jobs end → at ≤ end
placed_le at end jobs placed = omega (arith, placed_sum at end jobs placed)

pub placed_push : (at end : ℕ) (jobs : List Job) (job : Job) → ArePlaced at jobs end → IsPlacedAt end job → ArePlaced at (jobs ++ job ∷ []) (end + listed_by job)
placed_push at end [] job placed here = (subst (λ (n : ℕ). IsPlacedAt n job) (sym placed) here, ap (λ n. n + listed_by job) placed)
placed_push at end (first ∷ jobs) job placed here = (placed.0, placed_push (at + listed_by first) end jobs job placed.1 here)

-- where the blocks of the first requests end
record Ends (at end : ℕ) (jobs more : List Job) : Type 0 where
  middle : ℕ
  front : ArePlaced at jobs middle
  back : ArePlaced middle more end

ends : (at end : ℕ) (jobs more : List Job) → ArePlaced at (jobs ++ more) end → Ends at end jobs more
ends at end [] more placed = record { middle = at; front = refl; back = placed }
ends at end (job ∷ jobs) more placed =
    let rest = ends (at + listed_by job) end jobs more placed.1 in
    record { middle = rest.middle; front = (placed.0, rest.front); back = rest.back }

-- the blocks that a request names at its place
named_at : (at : ℕ) (job : Job) (blocks : List Block) → IsPlacedAt at job → named_blocks blocks job ≡ take (listed_by job) (drop at blocks)
named_at at (Read sector count high) blocks placed = sym (take_none (drop at blocks) 0 refl)
named_at at (Write sector count (Same byte) forced reliable high) blocks placed = sym (take_none (drop at blocks) 0 refl)
named_at at (Write sector count (Ramp start) forced reliable high) blocks placed = sym (take_none (drop at blocks) 0 refl)
named_at at (Write sector count (Listed place) forced reliable high) blocks placed = ap (λ n. take count (drop n blocks)) placed
named_at at Flush blocks placed = sym (take_none (drop at blocks) 0 refl)
named_at at Barrier blocks placed = sym (take_none (drop at blocks) 0 refl)
named_at at Status blocks placed = sym (take_none (drop at blocks) 0 refl)

-- they are no others in a longer list
named_longer : (at : ℕ) (job : Job) (blocks more : List Block) → IsPlacedAt at job → at + listed_by job ≤ length blocks → named_blocks (blocks ++ more) job ≡ named_blocks blocks job
named_longer at job blocks more placed room =
    named_at at job (blocks ++ more) placed
    ∙ ap (take (listed_by job)) (drop-append-le at blocks more (omega arith))
    ∙ take-append-le (listed_by job) (drop at blocks) more (omega (arith, length-drop at blocks))
    ∙ sym (named_at at job blocks placed)

named_new : (job : Job) (blocks more : List Block) → IsPlacedAt (length blocks) job → length more ≡ listed_by job → named_blocks (blocks ++ more) job ≡ more
named_new job blocks more placed long =
    named_at (length blocks) job (blocks ++ more) placed
    ∙ ap (take (listed_by job)) (drop-append-le (length blocks) blocks more (omega arith) ∙ ap (λ l. l ++ more) (drop_all blocks))
    ∙ ap (λ n. take n more) (sym long) ∙ take_all more
  where
    drop_all : (xs : List Block) → drop (length xs) xs ≡ []
    drop_all [] = refl
    drop_all (x ∷ xs) = drop_all xs

take_more : (at : ℕ) (job : Job) (blocks : List Block) → IsPlacedAt at job → take (at + listed_by job) blocks ≡ take at blocks ++ named_blocks blocks job
take_more at job blocks placed = take_sum at (listed_by job) blocks ∙ ap (λ l. take at blocks ++ l) (sym (named_at at job blocks placed))

-- the text of requests is that in a longer list
pub requests_longer : (at : ℕ) (jobs : List Job) (blocks more : List Block) → ArePlaced at jobs (length blocks) → requests_text (blocks ++ more) jobs ≡ requests_text blocks jobs
unfolding request_text
requests_longer at [] blocks more placed = refl
requests_longer at (job ∷ jobs) blocks more placed =
    let same = named_longer at job blocks more placed.0 (placed_le (at + listed_by job) (length blocks) jobs placed.1) in
    let first : request_text (blocks ++ more) job ≡ request_text blocks job = ap (λ (l : List Block). line (job_words (digits_of l) job)) same in
    let rest = requests_longer (at + listed_by job) jobs blocks more placed.1 in
    ap (λ t. t ++ requests_text (blocks ++ more) jobs) first ∙ ap (λ t. request_text blocks job ++ t) rest

-- the text with one request more
pub requests_push : (jobs : List Job) (job : Job) (blocks more : List Block) → ArePlaced 0 jobs (length blocks) → IsPlacedAt (length blocks) job → length more ≡ listed_by job
    → requests_text (blocks ++ more) (jobs ++ job ∷ []) ≡ requests_text blocks jobs ++ line (job_words (digits_of more) job)
unfolding request_text
requests_push jobs job blocks more placed here long =
    let last : request_text (blocks ++ more) job ≡ line (job_words (digits_of more) job) = ap (λ (l : List Block). line (job_words (digits_of l) job)) (named_new job blocks more here long) in
    flat_map-append (request_text (blocks ++ more)) jobs (job ∷ [])
    ∙ ap (λ t. t ++ (request_text (blocks ++ more) job ++ [])) (requests_longer 0 jobs blocks more placed)
    ∙ ap (λ t. requests_text blocks jobs ++ t) (append-nil (request_text (blocks ++ more) job) ∙ last)

-- a request of a list, with the blocks that it names
pub request_of : (at end : ℕ) (job : Job) (jobs : List Job) (blocks : List Block) → All IsJob (job ∷ jobs) → All IsBlock blocks → ArePlaced at (job ∷ jobs) end → end ≡ length blocks → Request at job (named_blocks blocks job)
request_of at end job jobs blocks each listed placed long = record {
  valid = All-head IsJob job jobs each;
  placed = placed.0;
  each = subst (λ (l : List Block). All IsBlock l) (sym (named_at at job blocks placed.0)) (All-take IsBlock (listed_by job) (drop at blocks) (All-drop IsBlock at blocks listed));
  long = ap length (named_at at job blocks placed.0) ∙ omega (arith, length-take (listed_by job) (drop at blocks), length-drop at blocks, placed_le (at + listed_by job) end jobs placed.1);
}

pub request_line : (job : Job) (blocks : List Block) → request_text blocks job ≡ line (job_words (digits_of (named_blocks blocks job)) job)
unfolding request_text
request_line job blocks = refl

-- requests of which others are the first
pub record Goes (jobs : List Job) (blocks : List Block) (others : List Job) (also : List Block) (x : List ℕ) : Type 0 where
  pub more : List Job
  pub list : others ≡ jobs ++ more
  pub front : take (length blocks) also ≡ blocks
  pub rest : x ≡ requests_text also more
  pub placed : ArePlaced (length blocks) more (length also)

go : (at : ℕ) (jobs others : List Job) (blocks also : List Block) (x : List ℕ) → All IsJob jobs → All IsJob others → All IsBlock blocks → All IsBlock also
    → ArePlaced at jobs (length blocks) → ArePlaced at others (length also) → take at blocks ≡ take at also → requests_text blocks jobs ++ x ≡ requests_text also others → Goes jobs blocks others also x
go at [] others blocks also x each all listed given placed found same text = record {
  more = others;
  list = refl;
  front = ap (λ n. take n also) (sym placed) ∙ sym same ∙ ap (λ n. take n blocks) placed ∙ take_all blocks;
  rest = text;
  placed = subst (λ (n : ℕ). ArePlaced n others (length also)) placed found;
}
go at (job ∷ jobs) [] blocks also x each all listed given placed found same text =
    let request = request_of at (length blocks) job jobs blocks each listed placed refl in
    let long = line_long (line (job_words (digits_of (named_blocks blocks job)) job)) (line_is (job_words (digits_of (named_blocks blocks job)) job) (request_words-plain at job (named_blocks blocks job) request)) in
    absurd (omega (arith, long, ap length (request_line job blocks), ap length text, length-append (request_text blocks job ++ requests_text blocks jobs) x, length-append (request_text blocks job) (requests_text blocks jobs)))
go at (job ∷ jobs) (other ∷ others) blocks also x each all listed given placed found same text =
    let request = request_of at (length blocks) job jobs blocks each listed placed refl in
    let second = request_of at (length also) other others also all given found refl in
    let begins : line (job_words (digits_of (named_blocks blocks job)) job) ++ (requests_text blocks jobs ++ x) ≡ line (job_words (digits_of (named_blocks also other)) other) ++ requests_text also others =
    ap (λ t. t ++ (requests_text blocks jobs ++ x)) (sym (request_line job blocks)) ∙ sym (append_assoc (request_text blocks job) (requests_text blocks jobs) x) ∙ text
    ∙ ap (λ t. t ++ requests_text also others) (request_line other also) in
    let parts = one_request at job other (named_blocks blocks job) (named_blocks also other) (requests_text blocks jobs ++ x) (requests_text also others) request second begins in
    let head = parts.0 in
    let next : at + listed_by other ≡ at + listed_by job = ap (λ j. at + listed_by j) (sym head) in
    let taken : take (at + listed_by job) blocks ≡ take (at + listed_by job) also =
    take_more at job blocks placed.0 ∙ ap (λ l. l ++ named_blocks blocks job) same ∙ ap (λ l. take at also ++ l) parts.1 ∙ sym (take_more at other also found.0) ∙ ap (λ n. take n also) next in
    let goes = go (at + listed_by job) jobs others blocks also x (All-tail IsJob job jobs each) (All-tail IsJob other others all) listed given placed.1
    (subst (λ (n : ℕ). ArePlaced n others (length also)) next found.1) taken parts.2 in
    record {
      more = goes.more;
      list = (let list = goes.list in cc);
      front = goes.front;
      rest = goes.rest;
      placed = goes.placed;
    }

-- requests whose text begins another's are its first
pub goes : (jobs others : List Job) (blocks also : List Block) (x : List ℕ) → All IsJob jobs → All IsJob others → All IsBlock blocks → All IsBlock also
    → ArePlaced 0 jobs (length blocks) → ArePlaced 0 others (length also) → requests_text blocks jobs ++ x ≡ requests_text also others → Goes jobs blocks others also x
goes jobs others blocks also x each all listed given placed found text = go 0 jobs others blocks also x each all listed given placed found refl text

-- each listed block is in the list
valid_job : (at : ℕ) (job : Job) (blocks : List Block) → IsJob job → IsPlacedAt at job → at + listed_by job ≤ length blocks → IsValidJob blocks job
valid_job at (Read sector count high) blocks valid placed room = (valid.least, valid.most)
valid_job at (Write sector count (Same byte) forced reliable high) blocks valid placed room = (valid.0.least, valid.0.most, tt)
valid_job at (Write sector count (Ramp start) forced reliable high) blocks valid placed room = (valid.0.least, valid.0.most, tt)
valid_job at (Write sector count (Listed place) forced reliable high) blocks valid placed room = (valid.0.least, valid.0.most, omega (arith, placed, room))
valid_job at Flush blocks valid placed room = tt
valid_job at Barrier blocks valid placed room = tt
valid_job at Status blocks valid placed room = tt

pub valid_jobs : (at : ℕ) (jobs : List Job) (blocks : List Block) → All IsJob jobs → ArePlaced at jobs (length blocks) → All (IsValidJob blocks) jobs
valid_jobs at [] blocks each placed = All-nil (IsValidJob blocks)
valid_jobs at (job ∷ jobs) blocks each placed =
    All-cons (IsValidJob blocks) job jobs (valid_job at job blocks (All-head IsJob job jobs each) placed.0 (placed_le (at + listed_by job) (length blocks) jobs placed.1))
    (valid_jobs (at + listed_by job) jobs blocks (All-tail IsJob job jobs each) placed.1)

-- the first requests, with the blocks that they list
pub record Front (jobs : List Job) (blocks : List Block) : Type 0 where
  pub fewer : List Block
  pub listed : All IsBlock fewer
  pub placed : ArePlaced 0 jobs (length fewer)
  pub text : requests_text blocks jobs ≡ requests_text fewer jobs

pub first_of : (jobs more : List Job) (blocks : List Block) → All IsBlock blocks → ArePlaced 0 (jobs ++ more) (length blocks) → Front jobs blocks
first_of jobs more blocks listed placed =
    let parts = ends 0 (length blocks) jobs more placed in
    let room = placed_le parts.middle (length blocks) more parts.back in
    let long : length (take parts.middle blocks) ≡ parts.middle = omega (arith, length-take parts.middle blocks) in
    let front = subst (λ (n : ℕ). ArePlaced 0 jobs n) (sym long) parts.front in
    record {
      fewer = take parts.middle blocks;
      listed = All-take IsBlock parts.middle blocks listed;
      placed = front;
      text = ap (λ (l : List Block). requests_text l jobs) (sym (take-append-drop parts.middle blocks)) ∙ requests_longer 0 jobs (take parts.middle blocks) (drop parts.middle blocks) front;
    }
