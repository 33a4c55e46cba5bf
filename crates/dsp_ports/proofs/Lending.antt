-- Laws of bytes that are lent.
use Rattle.std.proofs.Common.{◌≡◌, ◌∙◌, ◌++◌, ◌∷◌, ℕ, List, [], None, Some, ap, append-nil, arith, length, length-append, sym}
use Rattle.std.specs.declared.option.Option.{Option}
use Rattle.std.specs.Io.KnownBytes.{prepend_known}
use Rattle.dsp_ports.specs.Memory.{lent}
use Rattle.dsp_ports.specs.Ports.{SourceState, Gave, asked}

-- as many bytes as there are, are all
pub lent_all : (all bytes : List ℕ) (count : ℕ) (now : SourceState) → Gave (asked (lent all) count) now bytes
    → length bytes ≡ length all → bytes ≡ all
lent_all all bytes count now gave long = from now.left gave.front
  where
    from : (left : Option (List ℕ)) → Some all ≡ prepend_known bytes left → bytes ≡ all
    from None is = absurd (cc is)
    from (Some []) is = let whole : all ≡ bytes ++ [] = cc is in sym (whole ∙ append-nil bytes)
    from (Some (x ∷ rest)) is =
        let whole : all ≡ bytes ++ (x ∷ rest) = cc is in
        absurd (omega (arith, ap length whole, length-append bytes (x ∷ rest), long))
