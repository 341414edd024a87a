-- What is left to do falls with each event of the host that has work, whatever the array tells.
use Rattle.std.specs.Prelude.{◌≡◌, ◌≢◌, ◌<◌, true, false}
use Rattle.array_edge.specs.Array.{ArrayState}
use Rattle.drv_core.specs.Work.{has_work}
use Rattle.drv_core.specs.declared.act.Act.{Act}
use Rattle.drv_core.specs.declared.act.Act.TheVariants.{Step}
use Rattle.drv_recover.specs.declared.recovery.Step.TheVariants.{Dark}
use Rattle.world_state.specs.Host.{HostEvent}
use Rattle.world_state.specs.Path.{PathState}
use Rattle.world_state.specs.Ties.{AreTied}
use Rattle.world_state.specs.Work.{left_on_path}

-- an event of the host that has work
abbrev pub HostFalls : Type 0
HostFalls =
    (p : PathState) (a : ArrayState) (p' : PathState) (a' : ArrayState) (act : Act)
    → HostEvent p a p' a' act → AreTied p → AreTied p' → has_work p.driver p.regs ≡ true → left_on_path p' < left_on_path p

-- and of one that has none
abbrev pub HostRests : Type 0
HostRests =
    (p : PathState) (a : ArrayState) (p' : PathState) (a' : ArrayState) (act : Act)
    → HostEvent p a p' a' act → has_work p.driver p.regs ≡ false → left_on_path p' ≡ left_on_path p

-- power is never lost in an event of the host
abbrev pub HostIsLit : Type 0
HostIsLit = (p : PathState) (a : ArrayState) (p' : PathState) (a' : ArrayState) (act : Act) → HostEvent p a p' a' act → act ≢ Step Dark

-- what is left is read off driver, registers, engine and script alone
abbrev pub IsReadOff : Type 0
IsReadOff =
    (p p' : PathState) → p'.driver ≡ p.driver → p'.regs ≡ p.regs → p'.engine ≡ p.engine → p'.script ≡ p.script → left_on_path p' ≡ left_on_path p
