-- What each event changes of how the requests stand (cqhci_request, cqhci_irq, cqhci_finish_mrq and cqhci_recovery_finish of
-- drivers/mmc/host/cqhci-core.c).
use Rattle.std.specs.Prelude.{ℕ, ◌+◌, ◌-◌, ◌==◌, Bool, true, false, Option, None, Some, Result, Ok, Err, List, [], ◌∷◌, fold, min, if◌then◌else◌, slice_index_or, slice_set}
use Rattle.std.specs.Int.{bit_at}
use Rattle.drv_jobs.specs.declared.next.Due.{Due}
use Rattle.drv_jobs.specs.declared.next.Hold.{Hold}
use Rattle.drv_jobs.specs.declared.requests.TheConstants.{MOST_FAULTS}
use Rattle.drv_jobs.specs.Standings.{Standings, no_holders}

-- a request issued with its tag: it waits no more
abbrev pub issued : Standings → Due → Standings
issued s due = record s {
  waiting = slice_set s.waiting (due.id - 1) false;
  holders = slice_set s.holders due.tag (Some due.id);
}

-- the request that may be issued is issued; where there is none, nothing changes
abbrev pub issued_if : Standings → Result Due Hold → Standings
issued_if s (Ok due) = issued s due
issued_if s (Err hold) = s

-- the request of one tag is answered: the tag is free
abbrev pub answered : Standings → ℕ → Standings
answered s tag = record s { holders = slice_set s.holders tag None }

-- the tags from one on without those of a word
unfoldable pub freed_from : (word tag : ℕ) → List (Option ℕ) → List (Option ℕ)
freed_from word tag [] = []
freed_from word tag (holder ∷ holders) = (if bit_at word tag == 1 then None else holder) ∷ freed_from word (tag + 1) holders

-- the requests of the tags of a word are answered: these tags are free
abbrev pub collected : Standings → ℕ → Standings
collected s word = record s { holders = freed_from word 0 s.holders }

-- a tag's request waits again
abbrev pub waits_again : List Bool → Option ℕ → List Bool
waits_again waiting None = waiting
waits_again waiting (Some id) = slice_set waiting (id - 1) true

-- the requests of all tags wait again, and all tags are free
abbrev pub given_back : Standings → Standings
given_back s = record s { waiting = fold waits_again s.waiting s.holders; holders = no_holders }

-- the requests of all tags are answered, and all tags are free
abbrev pub forgotten : Standings → Standings
forgotten s = record s { holders = no_holders }

-- how often faults named a request; they are counted up to the number that ends it
abbrev pub faults_of : Standings → ℕ → ℕ
faults_of s id = slice_index_or s.faults (id - 1) 0

abbrev pub one_more : ℕ → ℕ
one_more n = min (n + 1) MOST_FAULTS

-- a fault named a request
abbrev pub faulted : Standings → ℕ → Standings
faulted s id = record s { faults = slice_set s.faults (id - 1) (one_more (faults_of s id)) }
