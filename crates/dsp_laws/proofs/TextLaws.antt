-- What is so of a text that was reported, with status 0 or 9.
use Rattle.std.proofs.Common.{◌≡◌, ℕ, List, arith, inl, inr}
use Rattle.dsp_ports.specs.Ports.{SinkState, IsSettled}
use Rattle.dsp_cli.specs.Run.{Wrote, Tells, ReportsText}
use Rattle.dsp_cli.proofs.ReportLaws.{tells-all}

module _ {text : List ℕ} {status : ℕ} {report told : SinkState} where
  pub text_told : ReportsText text status report told → Tells text report told
  text_told (inl way) = tells-all report told _ way.2
  text_told (inr way) = way.2

  pub text_wrote : ReportsText text status report told → status ≡ 0 → Wrote text report told
  text_wrote (inl way) zero = way.2
  text_wrote (inr way) zero = absurd (omega (arith, zero, way.0))

  pub text_kept : ReportsText text status report told → status ≡ 0 → told.faults ≡ report.faults
  text_kept (inl way) zero = way.1
  text_kept (inr way) zero = absurd (omega (arith, zero, way.0))

  pub text_settled : ReportsText text status report told → status ≡ 0 → IsSettled told
  text_settled (inl way) zero = way.3
  text_settled (inr way) zero = absurd (omega (arith, zero, way.0))
