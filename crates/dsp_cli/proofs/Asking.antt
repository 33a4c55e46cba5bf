-- What was asked of the port of a script or a state.
use Rattle.std.proofs.Common.{◌≡◌, refl, ap, sym, ◌∙◌, subst, Some, ℕ, ◌+◌, inl, Option}
use Rattle.dsp_command.specs.declared.command.Command.{Command}
use Rattle.dsp_cli.specs.Script.{most_of_script}
use Rattle.dsp_cli.specs.Asking.{Drawn, Draws, Begun}

-- nothing was asked
pub drawn_nothing : {S : Type 0} (Reads : S → ℕ → S → Type 0) (taken : S → ℕ) (most : ℕ) (s : S) →
    Drawn Reads taken most s s
drawn_nothing Reads taken most s = Begun

-- each read gave some
pub draws_all : {S : Type 0} (Reads : S → ℕ → S → Type 0) (taken : S → ℕ) (most : ℕ) (old new : S) →
    Drawn Reads taken most old new → Draws Reads taken most old new
draws_all Reads taken most old new drawn = record { reading = new; drawn = drawn; last = inl refl }

-- nothing was read
pub draws_nothing : {S : Type 0} (Reads : S → ℕ → S → Type 0) (taken : S → ℕ) (most : ℕ) (s : S) →
    Draws Reads taken most s s
draws_nothing Reads taken most s = record { reading = s; drawn = Begun; last = inl refl }

-- what a command reads is a script, or a state, which may have so many bytes
pub draws_of : {S : Type 0} {Reads : S → ℕ → S → Type 0} {taken : S → ℕ} (most : ℕ) {old new : S}
    {said : Option Command} {command is : Command} → Some command ≡ said → command ≡ is →
    most_of_script (Some is) ≡ most → Draws Reads taken (most + 1) old new →
    Draws Reads taken (most_of_script said + 1) old new
draws_of {S} {Reads} {taken} most {old} {new} says is_it reads draws =
    let same = ap most_of_script (sym says ∙ ap Some is_it) ∙ reads in
    subst (λ n. Draws Reads taken (n + 1) old new) (sym same) draws
