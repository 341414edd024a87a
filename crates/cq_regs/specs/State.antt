-- What the registers of the host interface hold (host interface annex of JESD84-B51).
use Rattle.std.specs.Prelude.{ℕ, Bool, List}
use Rattle.cq_regs.specs.declared.coalesce.Coalescing.{Coalescing}
use Rattle.cq_regs.specs.declared.slots.Ringed.{Ringed}

-- In the order of CQHCI_CFG, CTL, IS, ISTE, ISGE, IC, TDLBA, TDLBAU, TDBR with DPT, TCN, DQS, SSC1, SSC2, CRDCT, RMEM,
-- TERRI, CRI and CRA of drivers/mmc/host/cqhci.h; whether the engine has stopped is no register.
pub record Registers : Type 0 where
  pub configuration : ℕ
  pub halted : Bool
  pub stopped : Bool
  pub interrupts : ℕ
  pub status_enable : ℕ
  pub signal_enable : ℕ
  pub coalescing : Coalescing
  pub list_base : ℕ
  pub list_base_upper : ℕ
  pub ring : List Ringed
  pub completed : ℕ
  pub queue_status : ℕ
  pub send_status_1 : ℕ
  pub send_status_2 : ℕ
  pub direct_response : ℕ
  pub error_mask : ℕ
  pub error_information : ℕ
  pub response_index : ℕ
  pub response_argument : ℕ
