-- What the places of words and blocks do.
use Rattle.std.proofs.Common.{◌≡◌, ℕ, zero, suc, ◌+◌, ◌≤◌, Bool, false, ◌||◌, List, [], ◌∷◌, ◌++◌, length, Option}
use Rattle.std.proofs.Common.{Some, None, Ok, refl, sym, ap, subst, ◌∙◌, inl, inr, arith}
use Rattle.std.specs.Prelude.{◌⊎◌, codes}
use Rattle.dsp_defs.specs.declared.word.Word.TheVariants as words
use Rattle.dsp_defs.specs.declared.script.Block.{Block}
use Rattle.dsp_defs.specs.declared.flow.Flow.{Flow}
use Rattle.dsp_defs.specs.declared.word.Word.{Word}
use Rattle.dsp_defs.specs.Token.{Token, Run, Item, Rest}
use Rattle.dsp_defs.specs.Table.{is_correlate, flow_after, name_of}
use Rattle.dsp_defs.specs.Grammar.{Name}
use Rattle.dsp_defs.specs.Places.{◌>>=◌, next_at, choice, Environment}
use Rattle.dsp_defs.specs.Reading.{block_at, next_block, blocks_at}
use Rattle.dsp_script.specs.Answers.{parameters}
use Rattle.dsp_script.proofs.Names.{IsRun, place_again_output}
use Rattle.dsp_script.proofs.Steps.{Strips, written_name}
use Rattle.dsp_script.proofs.BlockLaws.{NextIs, AtBlock, next_block_takes}
use Rattle.dsp_script.proofs.PlainLaws.{as_items}
use Rattle.dsp_first_fault.proofs.Readers.{Reader, TakesAs, Completion, Room, even, Hope, Goes, accepted, next_does}
use Rattle.dsp_first_fault.proofs.Readers.{next_outcome}
use Rattle.dsp_first_fault.proofs.Sequences.{takes_none, done_outcome, other_hope, and_then, takes_both, then_behind}
use Rattle.dsp_first_fault.proofs.Sequences.{then_full, then, then_done}
use Rattle.dsp_first_fault.specs.Fault.{IsFull}
use Rattle.dsp_first_fault.proofs.Items.{rest_at, no_tokens, tokens_as}
use Rattle.dsp_first_fault.proofs.Endings.{is_named, run_ending}
use Rattle.dsp_first_fault.proofs.Judges.{choice_steady, next_block_steady}
use Rattle.dsp_first_fault.proofs.Accepted.{IsWord, word_accepted, output_accepted}
use Rattle.dsp_first_fault.proofs.Lists.{took_one, shorter}
use Rattle.dsp_first_fault.proofs.Numbers.{full_behind}
use Rattle.dsp_first_fault.proofs.Forms.{IsFillable, Never, form_outcome, block_most, fillable, FactorFull}
use Rattle.dsp_first_fault.proofs.Forms.{interpolate_outcome}

-- ---- words

-- a word of these is next
pub word_outcome : {A : Type 0} (full : List Token → Type 0) (meaning : List ℕ → Option A) (bytes : ℕ) (run : List ℕ)
    (x : A) (items : List Item) (end : ℕ) → IsWord bytes run → meaning run ≡ Some x →
    Goes full (next_at (choice meaning)) (even (bytes + 1)) (rest_at items end)
word_outcome full meaning bytes run x items end word e = next_outcome full (choice meaning) (bytes + 1)
    (choice_steady meaning) (word_accepted meaning bytes run x word e) items end

pub a_word : (bytes : ℕ) (run : List ℕ) → IsRun run → is_named (codes "block") (Run run) ≡ false →
    is_named (codes "table") (Run run) ≡ false → length run ≤ bytes → IsWord bytes run
a_word bytes run is block table short = record { is = is; block = block; table = table; short = short }

-- ---- blocks

never_full : {A : Type 0} (full : List Token → Type 0) (read : Reader A) (room : Room) (rest : Rest) →
    Goes Never read room rest → Goes full read room rest
never_full full read room rest = other_hope read (Hope Never read room) (Hope full read room) rest never
  where
    never : (ts : List Token) → Hope Never read room ts → Hope full read room ts
    never [] c = c
    never (t ∷ ts) (inl c) = inl c
    never (t ∷ ts) (inr (h, none)) = absurd h

-- what is full of a block's parameters
abbrev BlockFull : Word → List Token → Type 0
BlockFull w ts = (w ≡ words.Interpolate) × FactorFull ts

block_outcome : (tables : Environment) (w : Word) (flow : Flow) (items : List Item) (end : ℕ) →
    Goes (BlockFull w) (block_at tables (parameters w flow)) (even block_most) (rest_at items end)
block_outcome tables w flow items end = cases (fillable w flow)
  where
    passed_on : (ts : List Token) → Hope FactorFull (block_at tables (parameters words.Interpolate flow))
        (even block_most) ts → Hope (BlockFull words.Interpolate)
        (block_at tables (parameters words.Interpolate flow)) (even block_most) ts
    passed_on [] c = c
    passed_on (t ∷ ts) (inl c) = inl c
    passed_on (t ∷ ts) (inr (h, none)) = inr ((refl, h), none)

    cases : (w ≡ words.Interpolate) ⊎ IsFillable block_most (parameters w flow) →
        Goes (BlockFull w) (block_at tables (parameters w flow)) (even block_most) (rest_at items end)
    cases (inr f) = never_full (BlockFull w) (block_at tables (parameters w flow)) (even block_most)
        (rest_at items end) (form_outcome tables (parameters w flow) block_most items end f)
    cases (inl is) =
        let read = block_at tables (parameters words.Interpolate flow) in
        subst (λ (w : Word). Goes (BlockFull w) (block_at tables (parameters w flow)) (even block_most)
        (rest_at items end)) (sym is)
        (other_hope read (Hope FactorFull read (even block_most))
        (Hope (BlockFull words.Interpolate) read (even block_most)) (rest_at items end) passed_on
        (interpolate_outcome tables flow items end))

-- the blocks behind one
abbrev more_reader : Environment → ℕ → Bool → Flow → Block → Reader (List Block)
more_reader tables left correlated flow b rest = blocks_at tables left correlated (flow_after b flow) rest >>=
    λ more. Ok (b ∷ more.0, more.1)

-- the parameters of a block and what follows, or nothing behind the output's word
abbrev chain_reader : Environment → ℕ → Bool → Flow → Option Word → Reader (List Block)
chain_reader tables left correlated flow next rest = elim next [
  | None ↦ Ok ([], rest)
  | Some w ↦ (block_at tables (parameters w flow) rest >>= λ b. more_reader tables left
      (correlated || is_correlate w) flow b.0 b.1)
]

-- what is full behind the word of a block
abbrev ChainFull : Option Word → List Token → Type 0
ChainFull None ts = ⊥
ChainFull (Some w) ts = BlockFull w ts ⊎ IsFull ts

-- `output`, and no more blocks
abbrev pub blocks_room : Room
blocks_room = record { empty = 7; most = block_most + 7 }

chain_outcome : (tables : Environment) (left : ℕ) (correlated : Bool) (flow : Flow) (next : Option Word)
    (items : List Item) (end : ℕ) → ((c : Bool) (f : Flow) (items : List Item) (end : ℕ) →
    Goes IsFull (blocks_at tables left c f) blocks_room (rest_at items end)) →
    Goes (ChainFull next) (chain_reader tables left correlated flow next) (even (block_most + 7)) (rest_at items end)
chain_outcome tables left correlated flow None items end later = done_outcome _ [] items end
chain_outcome tables left correlated flow (Some w) items end later =
    then_full (block_at tables (parameters w flow)) (more_reader tables left (correlated || is_correlate w) flow)
    (BlockFull w) (λ _. IsFull) (ChainFull (Some w)) (even block_most) blocks_room (even (block_most + 7)) items end
    (record { empty = omega arith; most = omega arith; later = omega arith })
    (λ ts h. inl h) (λ b ts ts2 left takes h. inr (full_behind ts ts2 h))
    (block_outcome tables w flow items end)
    (λ b ts r e takes. then_done IsFull (blocks_at tables left (correlated || is_correlate w) (flow_after b flow))
    (λ more. b ∷ more) blocks_room r e (later (correlated || is_correlate w) (flow_after b flow) r e))

-- the word of a block was one run
word_taken : (left : ℕ) (correlated : Bool) (flow : Flow) (w : Word) (ts : List Token) (rest : List Item) →
    TakesAs (next_at (next_block left correlated flow)) ts (Some w) rest → ts ≡ Run (name_of w) ∷ []
word_taken left correlated flow w ts rest takes =
    named_word (next_block_takes [] left correlated flow (rest_at (as_items ts ++ rest) 0) (rest_at rest 0) (Some w)
    (takes (as_items ts) rest 0 (tokens_as ts) (inl refl)))
  where
    stripped : (items : List Item) → Strips [] items (Name (name_of w) ∷ []) rest → (item : Item) ×
        (items ≡ item ∷ rest) × (item.token ≡ Run (name_of w))
    stripped [] h = absurd h
    stripped (item ∷ items) h =
        (item, ap (λ (xs : List Item). item ∷ xs) h.1, written_name [] item.token (name_of w) h.0)

    named_word : NextIs [] left correlated flow (rest_at (as_items ts ++ rest) 0) (rest_at rest 0) (Some w) →
        ts ≡ Run (name_of w) ∷ []
    named_word (AtBlock w t allowed) = let s = stripped (as_items ts ++ rest) t.strips in
        shorter ts rest s.0 s.1 ∙ ap (λ (t : Token). t ∷ []) s.2

full_chain : (left : ℕ) (correlated : Bool) (flow : Flow) (next : Option Word) (ts ts2 : List Token)
    (rest : List Item) → TakesAs (next_at (next_block left correlated flow)) ts next rest → ChainFull next ts2 →
    IsFull (ts ++ ts2)
full_chain left correlated flow None ts ts2 rest takes h = absurd h
full_chain left correlated flow (Some w) ts ts2 rest takes (inr full) = full_behind ts ts2 full
full_chain left correlated flow (Some w) ts ts2 rest takes
    (inl (is, (numeral, runs, factor, same, value, small, few, none))) =
    let word : ts ≡ Run (codes "interpolate") ∷ [] = word_taken left correlated flow w ts rest takes ∙
    ap (λ (w : Word). Run (name_of w) ∷ []) is in
    record {
      before = [];
      numeral = numeral;
      taps = runs;
      factor = factor;
      ends = ap (λ (more : List Token). more ++ ts2) word ∙
          ap (λ (more : List Token). Run (codes "interpolate") ∷ more) same;
      value = value;
      small = small;
      few = few;
      none = none;
    }

-- the output's word ends the blocks
output_ends : (tables : Environment) (left : ℕ) (correlated : Bool) (flow : Flow) →
    Completion (and_then (next_at (next_block (suc left) correlated flow)) (chain_reader tables left correlated flow))
    7 []
output_ends tables left correlated flow =
    let judge = next_block (suc left) correlated flow in
    let a = output_accepted (suc left) correlated flow in
    record {
      more = Run (codes "output") ∷ [];
      x = [];
      ending = run_ending 7 (codes "output") (refl, omega arith) refl refl (omega arith);
      takes = takes_both (next_at judge) (chain_reader tables left correlated flow) None [] [] []
          (Run (codes "output") ∷ []) []
          (accepted judge (Run (codes "output")) None [] 0 (next_block_steady (suc left) correlated flow) tt
          (rw place_again_output refl))
          (takes_none [] [])
          (λ others ys same admits. rw (no_tokens others same) admits);
    }

pub blocks_outcome : (tables : Environment) (left : ℕ) (correlated : Bool) (flow : Flow) (items : List Item)
    (end : ℕ) → Goes IsFull (blocks_at tables left correlated flow) blocks_room (rest_at items end)
unfolding blocks_at
blocks_outcome tables zero correlated flow items end =
    then IsFull full_behind (next_at (next_block 0 correlated flow)) (λ _ r. Ok ([], r)) (even 7) (even 0) blocks_room
    items end (record { empty = omega arith; most = omega arith; later = omega arith })
    (next_outcome IsFull (next_block 0 correlated flow) 7 (next_block_steady 0 correlated flow)
    (output_accepted 0 correlated flow) items end)
    (λ next ts r e takes. done_outcome _ [] r e)
blocks_outcome tables (suc left) correlated flow items end =
    let later = blocks_outcome tables left in
    let judge = next_block (suc left) correlated flow in
    then_behind (next_at judge) (chain_reader tables left correlated flow) ChainFull IsFull (even (block_most + 7))
    blocks_room items end
    (record {
      none = λ x left takes. let one = took_one judge [] x left takes in absurd (let none = one.1 in cc);
      some = omega arith;
      later = omega arith;
    }) (full_chain (suc left) correlated flow)
    (next_does (Hope IsFull (and_then (next_at judge) (chain_reader tables left correlated flow)) blocks_room) judge
    (next_block_steady (suc left) correlated flow) (output_ends tables left correlated flow)
    (λ brace. absurd (let refused = brace.1 in cc)) items end)
    (λ next ts r e takes. chain_outcome tables left correlated flow next r e later)
