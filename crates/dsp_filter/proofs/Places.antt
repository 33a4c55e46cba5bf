-- Places of a channel's samples among frames.
use Rattle.std.proofs.Common.{◌≡◌, ◌∙◌, ap, sym, ℕ, ◌+◌, ◌*◌, ◌/◌, ◌%◌, ◌<◌}
use Rattle.std.proofs.lemmas.Nat.{div-mul-add, mod-mul-add}

pub same-frame : (channels n i c d : ℕ) → c < channels → d < channels → n * channels + c ≡ i * channels + d → n ≡ i
same-frame channels n i c d h k e = sym (div-mul-add n channels c h) ∙ ap (λ p. p / channels) e ∙
    div-mul-add i channels d k

pub same-channel : (channels n i c d : ℕ) → c < channels → d < channels → n * channels + c ≡ i * channels + d → c ≡ d
same-channel channels n i c d h k e = sym (mod-mul-add n channels c h) ∙ ap (λ p. p % channels) e ∙
    mod-mul-add i channels d k
