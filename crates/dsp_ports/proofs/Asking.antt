-- Reads that ask for all that is missing, one after another.
use Rattle.std.proofs.Common.{◌≡◌, ℕ, ◌+◌, ◌-◌, ◌<◌, min, subst, inr, arith}
use Rattle.dsp_ports.specs.Fill.{AsksForAll, Asked, Read}

-- one read more, of all that is missing
pub asked-more : {S : Type 0} (Reads : S → ℕ → S → Type 0) (taken : S → ℕ) (start before after : S)
    (size room came asked count : ℕ)
    → Asked Reads taken (min size room) start came before → Reads before asked after →
    asked ≡ min (size - came) (room - came)
    → 0 < count → taken after ≡ taken before + count → Asked Reads taken (min size room) start (came + count) after
asked-more Reads taken start before after size room came asked count earlier reads all some more =
    let missing : asked ≡ min size room - came = omega (arith, all) in
    Read came count before after earlier (subst (λ n. Reads before n after) missing reads) some more

-- a last read, of all that is missing, that has given nothing
pub asked-last : {S : Type 0} (Reads : S → ℕ → S → Type 0) (taken : S → ℕ) (start before after : S)
    (size room came asked : ℕ)
    → Asked Reads taken (min size room) start came before → Reads before asked after →
    asked ≡ min (size - came) (room - came)
    → came < min size room → taken after ≡ taken before → AsksForAll Reads taken (min size room) start after
asked-last Reads taken start before after size room came asked earlier reads all some same =
    let missing : asked ≡ min size room - came = omega (arith, all) in
    record {
      came = came;
      filling = before;
      asked = earlier;
      last =
          inr (some, subst (λ n. Reads before n after) missing reads, same);
    }
