-- A slot means one thing: what it means is a function of the memory and of the list.
use Rattle.std.proofs.Common.{◌≡◌, ℕ, ◌*◌, Bool, true, false, refl, sym, ap, ◌∙◌, Result, Ok, Err, inl, inr}
use Rattle.std.specs.Bool.{MatchBool}
use Rattle.host_mem.specs.Memory.{Memory}
use Rattle.cq_desc.specs.declared.direct.DirectDesc.{DirectDesc}
use Rattle.cq_desc.specs.declared.task.TaskDesc.{TaskDesc}
use Rattle.cq_desc.specs.declared.fault.DescFault.{DescFault}
use Rattle.cq_desc.specs.Direct.{direct_read}
use Rattle.cq_desc.specs.Task.{task_read}
use Rattle.cq_chain.specs.Chain.{longest_chain}
use Rattle.cq_chain.proofs.Walked.{walked}
use Rattle.cq_chain.proofs.Exact.{pieces-exact, fault-exact}
use Rattle.cq_task.specs.declared.list.TaskList.{TaskList}
use Rattle.cq_task.specs.declared.slot.SlotTask.TheVariants.{Direct, Data}
use Rattle.cq_task.specs.declared.slot.DropCause.TheVariants.{Task, Chain}
use Rattle.cq_task.specs.Place.{block_bytes, chain_of, first_word, is_direct}
use Rattle.cq_task.specs.Meaning.{Means, MeansData, MeansDirect}
use Rattle.cq_task.proofs.MeaningLaws.{Answer, with_chain, means-with_chain}

abbrev pub by_direct : Result DirectDesc DescFault → Answer
by_direct (Ok desc) = Ok (Direct desc)
by_direct (Err fault) = Err (Task fault)

direct_is : (word : ℕ) (answer : Answer) → MeansDirect word answer → by_direct (direct_read word) ≡ answer
direct_is word (Ok (Direct desc)) m = ap by_direct m
direct_is word (Ok (Data task)) m = absurd m
direct_is word (Err (Task fault)) m = ap by_direct m
direct_is word (Err (Chain fault)) m = absurd m

abbrev pub by_task : Memory → Bool → (chain : ℕ) → Result TaskDesc DescFault → Answer
by_task memory wide chain (Ok desc) = with_chain desc (walked memory wide longest_chain (desc.blocks * block_bytes) chain)
by_task memory wide chain (Err fault) = Err (Task fault)

by_walk : (memory : Memory) (wide : Bool) (word chain : ℕ) (desc : TaskDesc) → task_read word ≡ Ok desc → (answer : Answer)
    → MeansData memory wide word chain answer
    → with_chain desc (walked memory wide longest_chain (desc.blocks * block_bytes) chain) ≡ answer
by_walk memory wide word chain desc reads answer m =
    let want = desc.blocks * block_bytes in
    let found = walked memory wide longest_chain want chain in
    means-with_chain memory wide word chain desc found reads
    (record { pieces = pieces-exact memory wide longest_chain chain want found refl; fault = fault-exact memory wide longest_chain chain want found refl })
    answer m

data_is : (memory : Memory) (wide : Bool) (word chain : ℕ) (answer : Answer) → MeansData memory wide word chain answer
    → by_task memory wide chain (task_read word) ≡ answer
data_is memory wide word chain (Ok (Direct desc)) m = absurd m
data_is memory wide word chain (Ok (Data task)) m =
    ap (by_task memory wide chain) m.0 ∙ by_walk memory wide word chain task.desc m.0 (Ok (Data task)) m
data_is memory wide word chain (Err (Task fault)) m = ap (by_task memory wide chain) m
data_is memory wide word chain (Err (Chain fault)) m =
    ap (by_task memory wide chain) m.reads ∙ by_walk memory wide word chain m.desc m.reads (Err (Chain fault)) m

one_by : (memory : Memory) (wide : Bool) (word chain : ℕ) (direct : Bool) (a b : Answer)
    → MatchBool direct (MeansDirect word a) (MeansData memory wide word chain a)
    → MatchBool direct (MeansDirect word b) (MeansData memory wide word chain b) → a ≡ b
one_by memory wide word chain true a b p q = sym (direct_is word a p) ∙ direct_is word b q
one_by memory wide word chain false a b p q = sym (data_is memory wide word chain a p) ∙ data_is memory wide word chain b q

pub one_meaning : (memory : Memory) (list : TaskList) (slot : ℕ) (a b : Answer) → Means memory list slot a → Means memory list slot b → a ≡ b
one_meaning memory list slot a b (inl p) (inl q) = p.1 ∙ sym q.1
one_meaning memory list slot a b (inl p) (inr q) = absurd (p.0 q.0)
one_meaning memory list slot a b (inr p) (inl q) = absurd (q.0 p.0)
one_meaning memory list slot a b (inr p) (inr q) =
    one_by memory list.wide (first_word memory list slot) (chain_of list slot) (is_direct list slot) a b p.1 q.1
