-- A request text has one meaning or one first bad line.
use Rattle.std.proofs.Common.{◌≡◌, ◌≢◌, ◌⊎◌, inl, inr, ℕ, ◌+◌, ◌<◌, ◌≤◌, Bool, true, false, Result, Ok, Err, List, [], ◌∷◌, ◌++◌, length, take, drop, refl, sym, ap, subst, ◌∙◌, arith, append_assoc}
use Rattle.std.specs.Prelude.{All, IfErr, IfOk, IsErrAnd, flat_map, sum_by, ◌==◌}
use Rattle.std.proofs.lemmas.Bool.{eqb-true}
use Rattle.std.proofs.lemmas.List.{append-nil, length-append}
use Rattle.std.proofs.lemmas.List.Elements.{All-nil, All-cons, All-head, All-tail, All-take, All-drop}
use Rattle.std.proofs.lemmas.List.Sums.{count_by-le-length, sum_by-append}
use Rattle.storage_model.specs.declared.block.Block.{Block}
use Rattle.storage_model.specs.declared.ends.TextEnd.{TextEnd}
use Rattle.storage_model.specs.declared.ends.TextEnd.TheVariants.{Bad, NoMemory}
use Rattle.storage_model.specs.declared.plan.Fill.{Fill}
use Rattle.storage_model.specs.declared.plan.Fill.TheVariants.{Same, Ramp, Listed}
use Rattle.storage_model.specs.declared.plan.Job.{Job}
use Rattle.storage_model.specs.declared.plan.Job.TheVariants.{Read, Write, Flush, Barrier, Status}
use Rattle.storage_model.specs.declared.plan.Plan.{Plan}
use Rattle.storage_model.specs.Plan.{IsValidJob, IsValidPlan, blocks_of}
use Rattle.text_words.specs.Words.{line}
use Rattle.text_words.specs.Texts.{IsBadAt, lines_in}
use Rattle.text_words.proofs.BadLines.{Ended, HasLines, bad_front, no_bad_line as no_bad_text}
use Rattle.text_words.proofs.LineLists.{lines_ended}
use Rattle.text_words.proofs.Lines.{IsFree}
use Rattle.request_text.specs.declared.read.Lines.{Lines}
use Rattle.request_text.specs.declared.setting.Setting.{Setting}
use Rattle.request_text.specs.Lines.{AreLines, AreRefused, AreSet, Follows, IsFront, NoneFollows, NoneSet}
use Rattle.request_text.specs.Meaning.{AreRequests, AreSettings, IsRefused, Means}
use Rattle.request_text.specs.Requests.{ArePlaced, IsBlock, IsJob, digits_of, job_words, listed_blocks, named_blocks, request_text, requests_text}
use Rattle.request_text.specs.Settings.{IsSetting, plan_of, setting_text, settings_text}
use Rattle.request_text.proofs.Digits.{digits_of-word}
use Rattle.request_text.proofs.JobLists.{All-back, All-front, first_of, goes, request_line, request_of, valid_jobs}
use Rattle.request_text.proofs.JobTexts.{job_words-plain, request_no_setting, request_words-plain}
use Rattle.text_words.proofs.LineTexts.{IsLine, cut, front_line, line_is, line_long, lines_fit, lines_in-append, lines_of}
use Rattle.request_text.proofs.SettingLists.{once_new, overlap, plan_blocks, plan_jobs, plan_numbers, settings_front}
use Rattle.request_text.proofs.SettingTexts.{setting_line, setting_parts, setting_text-line}

-- settings and requests make a plan
pub means_from : (bytes : List ℕ) (settings : List Setting) (jobs : List Job) (blocks : List Block) → AreSettings settings → AreRequests jobs blocks
    → bytes ≡ settings_text settings ++ requests_text blocks jobs → length bytes ≤ 16777216 → Means bytes (plan_of settings jobs blocks)
means_from bytes settings jobs blocks set within is long =
    let plan = plan_of settings jobs blocks in
    let same_jobs : jobs ≡ plan.jobs = sym (plan_jobs settings jobs blocks) in
    let same_blocks : blocks ≡ plan.blocks = sym (plan_blocks settings jobs blocks) in
    let text : requests_text blocks jobs ≡ requests_text plan.blocks plan.jobs =
    ap (λ (l : List Block). requests_text l jobs) same_blocks ∙ ap (λ (l : List Job). requests_text plan.blocks l) same_jobs in
    let made : plan ≡ plan_of settings plan.jobs plan.blocks =
    ap (λ (l : List Block). plan_of settings jobs l) same_blocks ∙ ap (λ (l : List Job). plan_of settings l plan.blocks) same_jobs in
    record {
      settings = settings;
      text = is ∙ ap (λ t. settings_text settings ++ t) text;
      set = set;
      requests = subst (λ (l : List Job). AreRequests l plan.blocks) same_jobs (subst (λ (l : List Block). AreRequests jobs l) same_blocks within);
      fields = made;
      long = long;
    }

-- and it is valid
pub valid_plan : (settings : List Setting) (jobs : List Job) (blocks : List Block) → AreSettings settings → AreRequests jobs blocks → IsValidPlan (plan_of settings jobs blocks)
valid_plan settings jobs blocks set within =
    let numbers = plan_numbers settings jobs blocks set.each in
    let each = valid_jobs 0 jobs blocks within.each within.placed in
    let same_jobs : jobs ≡ (plan_of settings jobs blocks).jobs = sym (plan_jobs settings jobs blocks) in
    let same_blocks : blocks ≡ (plan_of settings jobs blocks).blocks = sym (plan_blocks settings jobs blocks) in
    record {
      depth = numbers.depth;
      lines = numbers.lines;
      coalesce = numbers.coalesce;
      job = subst (λ (l : List Job). All (IsValidJob (plan_of settings jobs blocks).blocks) l) same_jobs (subst (λ (l : List Block). All (IsValidJob l) jobs) same_blocks each);
      jobs = subst (λ (l : List Job). length l ≤ 65536) same_jobs within.count;
      blocks = subst (λ (l : List Job). sum_by blocks_of l ≤ 131072) same_jobs within.moved;
    }

listed_each : (fill : Fill) (count : ℕ) (blocks : List Block) → All IsBlock blocks → All IsBlock (listed_blocks blocks fill count)
listed_each (Same byte) count blocks each = All-nil IsBlock
listed_each (Ramp start) count blocks each = All-nil IsBlock
listed_each (Listed place) count blocks each = All-take IsBlock count (drop place blocks) (All-drop IsBlock place blocks each)

named_each : (job : Job) (blocks : List Block) → All IsBlock blocks → All IsBlock (named_blocks blocks job)
named_each (Read sector count high) blocks each = All-nil IsBlock
named_each (Write sector count fill forced reliable high) blocks each = listed_each fill count blocks each
named_each Flush blocks each = All-nil IsBlock
named_each Barrier blocks each = All-nil IsBlock
named_each Status blocks each = All-nil IsBlock

-- a request's text is a line
request_is_line : (blocks : List Block) → All IsBlock blocks → (job : Job) → IsJob job → IsLine (request_text blocks job)
unfolding request_text
request_is_line blocks each job valid =
    line_is (job_words (digits_of (named_blocks blocks job)) job) (job_words-plain job (digits_of (named_blocks blocks job)) valid (digits_of-word (named_blocks blocks job) (named_each job blocks each)))

pub count_lines : (settings : List Setting) (jobs : List Job) (blocks : List Block) → AreSettings settings → AreRequests jobs blocks
    → lines_in (settings_text settings ++ requests_text blocks jobs) ≡ length settings + length jobs
count_lines settings jobs blocks set within =
    omega (
      arith,
      lines_in-append (settings_text settings) (requests_text blocks jobs),
      lines_of IsSetting setting_text setting_text-line settings set.each,
      lines_of IsJob (request_text blocks) (request_is_line blocks within.listed) jobs within.each,
    )

pub settings_fit : (text : List ℕ) (settings : List Setting) (rest : List ℕ) → AreSet text settings rest → length settings ≤ length text
settings_fit text settings rest set =
    omega (arith, lines_fit IsSetting setting_text setting_text-line settings set.set.each, ap length set.parts, length-append (settings_text settings) rest)

-- requests don't begin as a setting
no_setting_first : (jobs : List Job) (blocks : List Block) (x after : List ℕ) (setting : Setting) → AreRequests jobs blocks → IsSetting setting → requests_text blocks jobs ++ x ≡ setting_text setting ++ after
    → (jobs ≡ []) × (x ≡ setting_text setting ++ after)
no_setting_first [] blocks x after setting within valid same = (refl, same)
no_setting_first (job ∷ jobs) blocks x after setting within valid same =
    absurd (request_no_setting 0 job (named_blocks blocks job) setting (requests_text blocks jobs ++ x) after (request_of 0 (length blocks) job jobs blocks within.each within.listed within.placed refl) valid
    (ap (λ t. t ++ (requests_text blocks jobs ++ x)) (sym (request_line job blocks)) ∙ sym (append_assoc (request_text blocks job) (requests_text blocks jobs) x) ∙ same))

not_empty : (next after : List ℕ) → next ++ 10 ∷ after ≡ [] → ⊥
not_empty next after e = omega (arith, ap length e, length-append next (10 ∷ after))

-- one request more is one that follows
one_more : (jobs others : List Job) (blocks also : List Block) (next : List ℕ) → AreRequests others also → IsFree 10 next → (more : List Job) → others ≡ jobs ++ more → next ++ 10 ∷ [] ≡ requests_text also more
    → ArePlaced (length blocks) more (length also) → (job : Job) × (listed : List Block) × Follows jobs blocks next job listed
one_more jobs others blocks also next within free [] list text placed = absurd (not_empty next [] text)
one_more jobs others blocks also next within free (job ∷ more) list text placed =
    let each = All-back IsJob jobs (job ∷ more) (subst (λ (l : List Job). All IsJob l) list within.each) in
    let request = request_of (length blocks) (length also) job more also each within.listed placed refl in
    let listed = named_blocks also job in
    let words = job_words (digits_of listed) job in
    let begins : next ++ 10 ∷ [] ≡ line words ++ requests_text also more = text ∙ ap (λ t. t ++ requests_text also more) (request_line job also) in
    let parts = front_line words (next ++ 10 ∷ []) (requests_text also more) next [] (request_words-plain (length blocks) job listed request) refl free begins in (
      job,
      listed,
      record {
        valid = request.valid;
        placed = request.placed;
        each = request.each;
        long = request.long;
        text = parts.0;
        count = omega (arith, within.count, ap length list, length-append jobs (job ∷ more));
        moved = omega (arith, within.moved, ap (sum_by blocks_of) list, sum_by-append blocks_of jobs (job ∷ more), sum_by-append blocks_of (job ∷ []) more);
      },
    )

-- where neither a setting nor a request may follow, no next line has a meaning
pub no_next : (settings : List Setting) (jobs : List Job) (blocks : List Block) (rest : List ℕ) → AreSettings settings → AreRequests jobs blocks → (jobs ≡ [] → NoneSet settings rest) → NoneFollows jobs blocks rest
    → (next after : List ℕ) (other : Plan) → rest ≡ next ++ 10 ∷ after → IsFree 10 next → ¬ Means ((settings_text settings ++ requests_text blocks jobs) ++ next ++ 10 ∷ []) other
no_next settings jobs blocks rest set within none_set none next after other is free means =
    let x = requests_text blocks jobs ++ (next ++ 10 ∷ []) in
    let y = requests_text other.blocks other.jobs in
    let same : settings_text settings ++ x ≡ settings_text means.settings ++ y =
    sym (append_assoc (settings_text settings) (requests_text blocks jobs) (next ++ 10 ∷ [])) ∙ sym (append_assoc (settings_text settings ++ requests_text blocks jobs) next (10 ∷ [])) ∙ means.text in
    elim (overlap settings means.settings x y set.each means.set.each same) [
      | inl equal ↦ (
          let found = goes jobs other.jobs blocks other.blocks (next ++ 10 ∷ []) within.each means.requests.each within.listed means.requests.listed within.placed means.requests.placed equal.1 in
          let one = one_more jobs other.jobs blocks other.blocks next means.requests free found.more found.list found.rest found.placed in
          none next after one.0 one.1 is one.2
          )
      | inr longer ↦ elim longer [
        | inl left ↦ (
            let first = no_setting_first jobs blocks (next ++ 10 ∷ []) left.after left.setting within left.valid left.text in
            let parts = setting_line left.setting (next ++ 10 ∷ []) left.after next [] left.valid refl free first.1 in
            let once = subst (λ (l : List Setting). AreSettings l) left.list means.set in
            none_set first.0 left.setting after left.valid (once_new settings left.more left.setting once.once) (setting_parts left.setting rest next after is parts.0)
            )
        | inr right ↦ (
            let first = no_setting_first other.jobs other.blocks [] right.after right.setting means.requests right.valid (append-nil y ∙ right.text) in
            let long = line_long (setting_text right.setting) (setting_text-line right.setting right.valid) in
            omega (arith, long, ap length first.1, length-append (setting_text right.setting) right.after)
            )
      ]
    ]

no_more_jobs : (more : List Job) (also : List Block) → All IsJob more → All IsBlock also → [] ≡ requests_text also more → more ≡ []
no_more_jobs [] also each listed is = refl
no_more_jobs (job ∷ more) also each listed is =
    absurd (omega (arith, line_long (request_text also job) (request_is_line also listed job (head each)), ap length is, length-append (request_text also job) (requests_text also more)))
  where
    head : All IsJob (job ∷ more) → IsJob job
    head all = all 0 job (omega arith)

same_plan : (p q : Plan) (settings others : List Setting) → p ≡ plan_of settings p.jobs p.blocks → q ≡ plan_of others q.jobs q.blocks → settings ≡ others → p.jobs ≡ q.jobs → p.blocks ≡ q.blocks → p ≡ q
same_plan p q settings others made also set jobs blocks =
    made ∙ ap (λ (l : List Setting). plan_of l p.jobs p.blocks) set ∙ ap (λ (l : List Job). plan_of others l p.blocks) jobs ∙ ap (λ (l : List Block). plan_of others q.jobs l) blocks ∙ sym also

take_whole : (xs ys : List Block) → take (length xs) ys ≡ xs → length xs ≡ length ys → xs ≡ ys
take_whole [] [] front long = refl
take_whole [] (y ∷ ys) front long = absurd (omega arith)
take_whole (x ∷ xs) [] front long = absurd (omega arith)
take_whole (x ∷ xs) (y ∷ ys) front long =
    let tail = take_whole xs ys (cc) (omega arith) in
    let head : y ≡ x = cc in
    cc

-- a text means one plan
pub one_meaning : (bytes : List ℕ) (plan other : Plan) → Means bytes plan → Means bytes other → plan ≡ other
one_meaning bytes plan other means also =
    let x = requests_text plan.blocks plan.jobs in
    let y = requests_text other.blocks other.jobs in
    elim (overlap means.settings also.settings x y means.set.each also.set.each (sym means.text ∙ also.text)) [
      | inl equal ↦ (
          let found = goes plan.jobs other.jobs plan.blocks other.blocks [] means.requests.each also.requests.each means.requests.listed also.requests.listed means.requests.placed also.requests.placed (append-nil x ∙ equal.1) in
          let each = All-back IsJob plan.jobs found.more (subst (λ (l : List Job). All IsJob l) found.list also.requests.each) in
          let none = no_more_jobs found.more other.blocks each also.requests.listed found.rest in
          let ends : length plan.blocks ≡ length other.blocks = subst (λ (l : List Job). ArePlaced (length plan.blocks) l (length other.blocks)) none found.placed in
          let jobs : plan.jobs ≡ other.jobs = sym (found.list ∙ ap (λ (l : List Job). plan.jobs ++ l) none ∙ append-nil plan.jobs) in
          same_plan plan other means.settings also.settings means.fields also.fields equal.0 jobs (take_whole plan.blocks other.blocks found.front ends)
          )
      | inr longer ↦ elim longer [
        | inl left ↦ absurd (apart plan.jobs plan.blocks left.after left.setting means.requests left.valid left.text)
        | inr right ↦ absurd (apart other.jobs other.blocks right.after right.setting also.requests right.valid right.text)
      ]
    ]
  where
    apart : (jobs : List Job) (blocks : List Block) (after : List ℕ) (setting : Setting) → AreRequests jobs blocks → IsSetting setting → requests_text blocks jobs ≡ setting_text setting ++ after → ⊥
    apart jobs blocks after setting within valid same =
        let first = no_setting_first jobs blocks [] after setting within valid (append-nil (requests_text blocks jobs) ∙ same) in
        omega (arith, line_long (setting_text setting) (setting_text-line setting valid), ap length first.1, length-append (setting_text setting) after)

-- the front of a text, up to the end of a line, has a meaning
front_jobs : (settings : List Setting) (jobs more : List Job) (blocks : List Block) (bytes : List ℕ) → AreSettings settings → AreRequests (jobs ++ more) blocks
    → bytes ≡ settings_text settings ++ requests_text blocks jobs → length bytes ≤ 16777216 → (plan : Plan) × Means bytes plan
front_jobs settings jobs more blocks bytes set within is long =
    let first = first_of jobs more blocks within.listed within.placed in
    let fewer : AreRequests jobs first.fewer = record {
      each = All-front IsJob jobs more within.each;
      listed = first.listed;
      placed = first.placed;
      count = omega (arith, within.count, length-append jobs more);
      moved = omega (arith, within.moved, sum_by-append blocks_of jobs more);
    } in
    (plan_of settings jobs first.fewer, means_from bytes settings jobs first.fewer set fewer (is ∙ ap (λ t. settings_text settings ++ t) first.text) long)

no_requests : AreRequests [] []
no_requests = record { each = All-nil IsJob; listed = All-nil IsBlock; placed = refl; count = omega arith; moved = omega arith }

pub front_means : (a b : List ℕ) (plan : Plan) → Means (a ++ 10 ∷ b) plan → (other : Plan) × Means (a ++ 10 ∷ []) other
front_means a b plan means =
    let long : length (a ++ 10 ∷ []) ≤ 16777216 = omega (arith, means.long, length-append a (10 ∷ b), length-append a (10 ∷ [])) in
    let jobs = plan.jobs in
    let blocks = plan.blocks in
    let y = requests_text blocks jobs in
    elim (cut IsSetting setting_text setting_text-line means.settings y a b means.set.each (sym means.text)) [
      | inl within ↦ (
          let set = settings_front within.front within.back (subst (λ (l : List Setting). AreSettings l) within.list means.set) in
          (plan_of within.front [] [], means_from (a ++ 10 ∷ []) within.front [] [] set no_requests (within.whole ∙ sym (append-nil (settings_text within.front))) long)
          )
      | inr behind ↦ elim (cut IsJob (request_text blocks) (request_is_line blocks means.requests.listed) jobs [] behind.more b means.requests.each (append-nil y ∙ behind.rest)) [
        | inl within ↦ (
            let requests = subst (λ (l : List Job). AreRequests l blocks) within.list means.requests in
            front_jobs means.settings within.front within.back blocks (a ++ 10 ∷ []) means.set requests
            (ap (λ t. t ++ 10 ∷ []) behind.front ∙ append_assoc (settings_text means.settings) behind.more (10 ∷ []) ∙ ap (λ t. settings_text means.settings ++ t) within.whole) long
            )
        | inr after ↦ absurd (not_empty after.more b (sym after.rest))
      ]
    ]

-- an error that is handed on
pub handed_on : {T : Type 0} (result : Result T TextEnd) (end : TextEnd) (P : TextEnd → Type 0) → IsErrAnd result (λ e. e ≡ end) → P end → IfErr result P
handed_on (Ok value) end P same refused = absurd same
handed_on (Err e) end P same refused = subst P (sym same) refused

-- requests end where the text does
pub refused_behind : (text : List ℕ) (settings : List Setting) (rest : List ℕ) (count : ℕ) (end : TextEnd) → AreSet text settings rest → length text ≤ 16777216 → count ≡ length settings → AreRefused rest count end → IsRefused text end
refused_behind text settings rest count NoMemory set fits counted refused = tt
refused_behind text settings rest count (Bad number) set fits counted refused =
    let jobs = refused.0 in
    let blocks = refused.1 in
    let left = refused.2 in
    let ended = refused.3 in
    let good = settings_text settings ++ requests_text blocks jobs in
    let whole : text ≡ good ++ left = set.parts ∙ ap (λ t. settings_text settings ++ t) ended.parts ∙ sym (append_assoc (settings_text settings) (requests_text blocks jobs) left) in
    let long : length good ≤ 16777216 = omega (arith, fits, ap length whole, length-append good left) in (
      good,
      left,
      record {
        text = whole;
        meaning = plan_of settings jobs blocks;
        means = means_from good settings jobs blocks set.set ended.within refl long;
        more = ended.more;
        bad = no_next settings jobs blocks left set.set ended.within
            (λ none. subst (λ (t : List ℕ). NoneSet settings t) (ended.parts ∙ ap (λ (l : List Job). requests_text blocks l ++ left) none) set.none) ended.none;
      },
      refused.4 ∙ omega (arith, counted, count_lines settings jobs blocks set.set ended.within),
    )

-- a text that means a plan ends with a line feed
both_ended : (a b : List ℕ) → Ended a → Ended b → Ended (a ++ b)
both_ended a b one two =
    elim two [
      | inl none ↦ elim one [
        | inl empty ↦ inl (ap (λ t. t ++ b) empty ∙ none)
        | inr some ↦ inr (some.0, ap (λ t. a ++ t) none ∙ append-nil a ∙ some.1)
      ]
      | inr some ↦ inr (a ++ some.0, ap (λ t. a ++ t) some.1 ∙ sym (append_assoc a some.0 (10 ∷ [])))
    ]

means_ended : (bytes : List ℕ) (plan : Plan) → Means bytes plan → Ended bytes
means_ended bytes plan means =
    subst (λ (t : List ℕ). Ended t) (sym means.text)
    (both_ended (settings_text means.settings) (requests_text plan.blocks plan.jobs) (lines_ended IsSetting setting_text setting_text-line means.settings means.set.each)
    (lines_ended IsJob (request_text plan.blocks) (request_is_line plan.blocks means.requests.listed) plan.jobs means.requests.each))

-- a text that means a plan has not more than 16 MiB
pub meaning_fits : (bytes : List ℕ) (plan : Plan) → Means bytes plan → length bytes ≤ 16777216
meaning_fits bytes plan means = means.long

-- each front of whole lines is a request text
has_lines : HasLines Means
has_lines = record { front = front_means; ended = means_ended }

-- a text that means a plan has no bad line
pub no_bad_line : (bytes : List ℕ) (plan : Plan) (number : ℕ) → Means bytes plan → IsBadAt Means bytes number → ⊥
no_bad_line bytes plan number means bad = no_bad_text Means has_lines bytes plan number means bad

-- the line behind the last byte that a text may have is bad
pub bad_behind : (front more : List ℕ) (plan : Plan) → length front ≡ 16777216 → more ≢ [] → Means front plan → IsBadAt Means (front ++ more) (lines_in front + 1)
bad_behind front more plan long some means = (
  front,
  more,
  record {
    text = refl;
    meaning = plan;
    means = means;
    more = some;
    bad = λ next after other is free longer. omega (arith, longer.long, length-append (front ++ next) (10 ∷ []), length-append front next);
  },
  refl,
)

-- why the front of a text is refused is why the text is
pub refused_front : (bytes front : List ℕ) (end : TextEnd) → IsFront bytes front → IsRefused front end → IsRefused bytes end
refused_front bytes front NoMemory is refused = tt
refused_front bytes front (Bad number) is refused = by_more is.more is.parts is.all
  where
    by_more : (more : List ℕ) → bytes ≡ front ++ more → (more ≢ [] → length front ≡ 16777216) → IsBadAt Means bytes number
    by_more [] parts all = subst (λ (t : List ℕ). IsBadAt Means t number) (sym (parts ∙ append-nil front)) refused
    by_more (b ∷ more) parts all = subst (λ (t : List ℕ). IsBadAt Means t number) (sym parts) (bad_front Means has_lines 16777216 meaning_fits front (b ∷ more) number (omega (arith, all (λ e. cc))) refused)

-- lines that were read make a plan
pub lines_mean : (text : List ℕ) (lines : Lines) → AreLines text lines → length text ≤ 16777216 → Means text (plan_of lines.settings lines.jobs lines.blocks)
lines_mean text lines read fits = means_from text lines.settings lines.jobs lines.blocks read.set read.within read.whole fits

pub lines_count : (text : List ℕ) (lines : Lines) → AreLines text lines → lines_in text ≡ length lines.settings + length lines.jobs
lines_count text lines read = ap lines_in read.whole ∙ count_lines lines.settings lines.jobs lines.blocks read.set read.within

-- there are fewer lines than bytes
pub lines_few : (text : List ℕ) (lines : Lines) → AreLines text lines → length text ≤ 16777216 → length lines.settings + length lines.jobs ≤ 16777216
lines_few text lines read fits = omega (arith, lines_count text lines read, count_by-le-length (λ b. b == 10) text)

pub whole_front : (bytes front : List ℕ) → IsFront bytes front → length bytes ≤ length front → front ≡ bytes
whole_front bytes front is long = by_more is.more is.parts
  where
    by_more : (more : List ℕ) → bytes ≡ front ++ more → front ≡ bytes
    by_more [] parts = sym (parts ∙ append-nil front)
    by_more (b ∷ more) parts = absurd (omega (arith, ap length parts, length-append front (b ∷ more)))

-- a text that is longer than its front is bad behind it
pub bad_over : (bytes front : List ℕ) (lines : Lines) (count : ℕ) → IsFront bytes front → AreLines front lines → length front < length bytes → count ≡ length lines.settings + length lines.jobs → IsBadAt Means bytes (count + 1)
bad_over bytes front lines count is read long counted = by_more is.more is.parts is.all
  where
    number : lines_in front + 1 ≡ count + 1
    number = ap (λ n. n + 1) (lines_count front lines read ∙ sym counted)

    by_more : (more : List ℕ) → bytes ≡ front ++ more → (more ≢ [] → length front ≡ 16777216) → IsBadAt Means bytes (count + 1)
    by_more [] parts all = absurd (omega (arith, ap length (parts ∙ append-nil front)))
    by_more (b ∷ more) parts all =
        subst (λ (t : List ℕ). IsBadAt Means t (count + 1)) (sym parts)
        (subst (λ (n : ℕ). IsBadAt Means (front ++ b ∷ more) n) number (bad_behind front (b ∷ more) (plan_of lines.settings lines.jobs lines.blocks) (all (λ e. cc)) (λ e. cc) (lines_mean front lines read is.within)))

-- a text that means a plan is not refused
pub not_refused : (result : Result Plan TextEnd) (bytes : List ℕ) (end : TextEnd) (plan : Plan) → IsErrAnd result (λ e. e ≡ end) → IsRefused bytes end → Means bytes plan
    → IfOk result (λ read. read ≡ plan) × IfErr result (λ e. e ≡ NoMemory)
not_refused (Ok value) bytes end plan same refused means = absurd same
not_refused (Err e) bytes NoMemory plan same refused means = (tt, same)
not_refused (Err e) bytes (Bad number) plan same refused means = absurd (no_bad_line bytes plan number means refused)
