-- The two parts of a state: its contents, and control, which is all else.
use Rattle.std.specs.Prelude.{◌≡◌, ℕ, Bool, List, [], length, slice_index_or}
use Rattle.storage_machine.specs.Cuts.{next_left}
use Rattle.storage_machine.specs.declared.state.State.{State}
use Rattle.storage_model.specs.declared.block.Block.{Block}
use Rattle.storage_model.specs.declared.marks.Mark.{Mark}

-- What is kept and what a cache holds over it, what reads show, what was left so far and the epochs that allow it, and what is known of how much was kept.
pub record Contents : Type 0 where
  pub base : List Block
  pub pend : List Mark
  pub «data» : List (List Block)
  pub kept : Bool
  pub deferred : Bool
  pub lefts : List Mark
  pub epochs : List ℕ

abbrev pub contents_of : State → Contents
contents_of s = record {
  base = s.base;
  pend = s.pend;
  «data» = s.data;
  kept = s.kept;
  deferred = s.deferred;
  lefts = s.lefts;
  epochs = s.epochs;
}

-- the state with other contents
abbrev pub with_contents : Contents → State → State
with_contents c s = record s {
  base = c.base;
  pend = c.pend;
  «data» = c.data;
  kept = c.kept;
  deferred = c.deferred;
  lefts = c.lefts;
  epochs = c.epochs;
}

-- the states differ in their contents alone
abbrev pub SameControl : State → State → Type 0
SameControl s t = t ≡ with_contents (contents_of t) s

-- What control sees of contents: how many sectors there are, how many of them a read shows, and which is the next with a put.
pub record SameOutline (c d : Contents) : Type 0 where
  pub sectors : length c.base ≡ length d.base
  pub shown : (tag : ℕ) → length (slice_index_or c.data tag []) ≡ length (slice_index_or d.data tag [])
  pub puts : (from : ℕ) → next_left c.pend from ≡ next_left d.pend from
