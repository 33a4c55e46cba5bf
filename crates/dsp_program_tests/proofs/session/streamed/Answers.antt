use Rattle.std.proofs.Common.{◌≡◌, subst, Some, Result, Ok, Err}
use Rattle.std.specs.Prelude.{IfOk}
use Rattle.std.specs.Result.{result_ok}
use Rattle.dsp_program_tests.proofs.session.streamed.Goals as goal

taken_out : {T E : Type 0} (P : T → Type 0) (answer : Result T E) (value : T) → Some value ≡ result_ok answer →
    IfOk answer P → P value
taken_out P (Ok found) value is holds = (let same : found ≡ value = cc in subst P same holds)
taken_out P (Err error) value is holds = absurd (cc)

pub stream-requires : goal.stream-requires
stream-requires g c = record {
  new = (taken_out _ c.new.result c.in_ok-session.session c.in_ok-session.ensures.value
      c.new.ensures).stands;
}
