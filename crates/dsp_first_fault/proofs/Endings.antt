-- Tokens with which a text can be ended, and how many bytes they take.
use Rattle.std.proofs.Common.{◌≡◌, ℕ, ◌+◌, ◌<◌, ◌≤◌, Bool, false, List, [], ◌∷◌, ◌++◌, length, refl, ap, subst, ◌∙◌}
use Rattle.std.proofs.Common.{sym, append_assoc, length-append, arith}
use Rattle.std.specs.Prelude.{codes, is_some}
use Rattle.std.specs.List.{AllByRecursion}
use Rattle.dsp_defs.specs.Token.{Token, Open, Close, Run, Bad, Item}
use Rattle.dsp_defs.specs.Places.{meaning_of, named}
use Rattle.dsp_script.specs.Plain.{tokens}
use Rattle.dsp_script.proofs.Names.{IsRun}
use Rattle.dsp_first_fault.proofs.Items.{IsQuiet, parted, no_tokens}

-- the bytes of a token
abbrev token_bytes : Token → List ℕ
token_bytes Open = 123 ∷ []
token_bytes Close = 125 ∷ []
token_bytes (Run run) = run
token_bytes Bad = []

-- the bytes of tokens, with a space behind each
abbrev pub written : List Token → List ℕ
written [] = []
written (token ∷ ts) = token_bytes token ++ 32 ∷ written ts

-- a token that can be written
abbrev pub IsWritable : Token → Type 0
IsWritable (Run run) = IsRun run
IsWritable Bad = ⊥
IsWritable token = Unit {0}

-- the token is this word
abbrev pub is_named : List ℕ → Token → Bool
is_named name token = is_some (meaning_of (named name) token)

-- these tokens can be written in so many bytes, and begin neither a block length nor a table
pub record IsEnding (room : ℕ) (ts : List Token) : Type 0 where
  pub short : length (written ts) ≤ room
  pub writable : AllByRecursion IsWritable ts
  pub quiet : (others ys : List Item) → tokens others ≡ ts → IsQuiet ys → IsQuiet (others ++ ys)

pub ending_none : (room : ℕ) → IsEnding room []
ending_none room = record {
  short = omega arith;
  writable = tt;
  quiet = λ others ys same quiet. subst (λ (xs : List Item). IsQuiet (xs ++ ys)) (sym (no_tokens others same)) quiet;
}

quiet_first : (token : Token) (ts : List Token) → is_named (codes "block") token ≡ false →
    is_named (codes "table") token ≡ false → (others ys : List Item) → tokens others ≡ token ∷ ts → IsQuiet ys →
    IsQuiet (others ++ ys)
quiet_first token ts block table [] ys same quiet = absurd cc
quiet_first token ts block table (o ∷ others) ys same quiet =
    let here : o.token ≡ token = cc in
    record {
      block = ap (is_named (codes "block")) here ∙ block;
      table = ap (is_named (codes "table")) here ∙ table;
    }

pub ending_more : (room more : ℕ) (token : Token) (ts : List Token) → IsWritable token →
    is_named (codes "block") token ≡ false → is_named (codes "table") token ≡ false →
    length (token_bytes token) + 1 + more ≤ room → IsEnding more ts → IsEnding room (token ∷ ts)
ending_more room more token ts writable block table fits ending = record {
  short = omega (arith, length-append (token_bytes token) (32 ∷ written ts), ending.short, fits);
  writable = (writable, ending.writable);
  quiet = quiet_first token ts block table;
}

written_append : (xs ys : List Token) → written (xs ++ ys) ≡ written xs ++ written ys
written_append [] ys = refl
written_append (x ∷ xs) ys = ap (λ (bytes : List ℕ). token_bytes x ++ 32 ∷ bytes) (written_append xs ys) ∙
    sym (append_assoc (token_bytes x) (32 ∷ written xs) (written ys))

writable_append : (xs ys : List Token) → AllByRecursion IsWritable xs → AllByRecursion IsWritable ys →
    AllByRecursion IsWritable (xs ++ ys)
writable_append [] ys h k = k
writable_append (x ∷ xs) ys h k = (h.0, writable_append xs ys h.1 k)

pub ending_join : (a b : ℕ) (xs ys : List Token) → IsEnding a xs → IsEnding b ys → IsEnding (a + b) (xs ++ ys)
ending_join a b xs ys first then = record {
  short = omega (
    arith,
    ap (λ (bytes : List ℕ). length bytes) (written_append xs ys),
    length-append (written xs) (written ys),
    first.short,
    then.short,
  );
  writable = writable_append xs ys first.writable then.writable;
  quiet = λ others zs same quiet.
      let p = parted xs ys others same in
      let regrouped : (p.0 ++ p.1) ++ zs ≡ others ++ zs = ap (λ (os : List Item). os ++ zs) (sym p.2) in
      subst IsQuiet (sym (append_assoc p.0 p.1 zs) ∙ regrouped)
      (first.quiet p.0 (p.1 ++ zs) p.3 (then.quiet p.1 zs p.4 quiet));
}

pub ending_wider : (a b : ℕ) (ts : List Token) → a ≤ b → IsEnding a ts → IsEnding b ts
ending_wider a b ts le ending = record {
  short = omega (arith, ending.short, le);
  writable = ending.writable;
  quiet = ending.quiet;
}

-- a run, alone
pub run_ending : (room : ℕ) (run : List ℕ) → IsRun run → is_named (codes "block") (Run run) ≡ false →
    is_named (codes "table") (Run run) ≡ false → length run < room → IsEnding room (Run run ∷ [])
run_ending room run is block table fits =
    ending_more room 0 (Run run) [] is block table (omega arith) (ending_none 0)
