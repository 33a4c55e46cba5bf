use Rattle.std.proofs.Common.{subst, sym}
use Rattle.dsp_defs.specs.Grammar.{Reads}
use Rattle.dsp_script.proofs.CanonLaws.{canon_read}
use Rattle.dsp_script.proofs.ScriptLaws.{one_script}
use Rattle.dsp_state.proofs.StateLaws as laws
use Rattle.dsp_state.proofs.laws.one_state.Goals as goal

pub returns : goal.returns
returns c s t m n xs ys ss st short short' fm fn fx fy same =
    let text = (laws.texts_apart s t m n xs ys short short' fm fn same).0 in
    let (frames, numbers) = laws.values_apart s t m n xs ys short short' fm fn same fx fy in (
      one_script _ s t (canon_read s ss short) (subst (λ bytes. Reads bytes t) (sym text) (canon_read t st short')),
      frames,
      numbers,
    )
