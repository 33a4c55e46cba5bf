-- Scripts: what is read is in the grammar, and what is in the grammar is read.
use Rattle.std.proofs.Common.{◌≡◌, ◌≢◌, ℕ, pos, ◌+◌, ◌≤◌, Bool, true, false, cond, ltb, List, [], ◌∷◌, ◌++◌, length}
use Rattle.std.proofs.Common.{map, Option, Some, None, Result, Ok, Err, refl, sym, ap, subst, ◌∙◌, append_assoc}
use Rattle.std.proofs.Common.{arith}
use Rattle.std.specs.Prelude.{⊤, IfOk, IfSome, codes, ◌↔◌}
use Rattle.std.specs.List.{flat_map}
use Rattle.std.specs.Result.{result_err}
use Rattle.std.proofs.lemmas.Bool.{ltb-false, le-ltb}
use Rattle.std.proofs.lemmas.List.Concat.{flat_map-cons}
use Rattle.dsp_defs.specs.declared.limits.TheConstants.{MAX_BLOCKS, MAX_BLOCK_LENGTH, MAX_CHANNELS, MAX_SCRIPT}
use Rattle.dsp_defs.specs.declared.limits.TheConstants.{MAX_VERSION}
use Rattle.dsp_defs.specs.declared.script_fault.ScriptFault.{ScriptFault}
use Rattle.dsp_script.specs.declared.fault.ParseFault.{ParseFault}
use Rattle.dsp_script.specs.declared.fault.ParseFault.TheVariants as errors
use Rattle.dsp_defs.specs.declared.script.Block.{Block}
use Rattle.dsp_defs.specs.declared.format.Container.{Container}
use Rattle.dsp_defs.specs.declared.format.Container.TheVariants as container
use Rattle.dsp_defs.specs.declared.format.InputKind.{InputKind}
use Rattle.dsp_defs.specs.declared.format.InputKind.TheVariants as kind
use Rattle.dsp_defs.specs.declared.format.Input.{Input}
use Rattle.dsp_defs.specs.declared.script.Script.{Script}
use Rattle.dsp_defs.specs.declared.word.Word.{Word}
use Rattle.std.specs.Str.{bytes_eq}
use Rattle.dsp_defs.specs.Token.{Token, Open, Close, Run, Bad, Item, Rest, items, rest_of}
use Rattle.dsp_defs.specs.Table.{by_name, name_of, every_format, format_name, container_name, input_containers}
use Rattle.dsp_defs.specs.Table.{output_containers}
use Rattle.dsp_defs.specs.Tables.{Named, MayStand}
use Rattle.dsp_defs.specs.Grammar.{Symbol, Name, Numeral, word_of, arguments, argument_symbol, block_symbols}
use Rattle.dsp_defs.specs.Grammar.{input_symbols, length_symbols, symbols, input_flow, IsFit, Reads, container_of}
use Rattle.dsp_defs.specs.Grammar.{rate_symbols, HasRate, table_symbols, correlates}
use Rattle.dsp_defs.specs.Places.{◌>>=◌, next_at, choice, named, begins_with, natural_at, environment_at}
use Rattle.dsp_script.specs.Answers.{GivesUnlessMemory}
use Rattle.dsp_defs.specs.Reading.{blocks_at, length_at, nothing_of, input_at, script_at, reading, first_fault, kind_at}
use Rattle.dsp_script.proofs.Steps.{bind_ok, read_to, refused, ok_is, pair, pair_is, choice_run, next_takes}
use Rattle.dsp_script.proofs.Steps.{begins_word, begins_other, Strips, Strips-split, Strips-from_spells}
use Rattle.dsp_script.proofs.Steps.{spells_from_Strips, Takes, Takes-then, Takes-none, word_takes, name_takes}
use Rattle.dsp_script.proofs.Steps.{natural_takes}
use Rattle.dsp_script.proofs.Steps.{word_read, name_read, natural_read}
use Rattle.dsp_script.proofs.Names.{no_length, no_table, format_again, container_again, input_container_again}
use Rattle.dsp_script.proofs.ListLaws.{tables_in, braced}
use Rattle.dsp_script.proofs.TableLaws.{environment_of, tables_of, environment_takes, environment_read}
use Rattle.dsp_script.proofs.BlockLaws.{blocks_take, blocks_read}

-- ---- the block length

length_takes : (tables : List Named) (rest after : Rest) (frames : Option ℕ) → length_at rest ≡ Ok (frames, after) →
    Takes tables rest after (length_symbols frames) × IfSome frames (λ n. (1 ≤ n) × (n ≤ MAX_BLOCK_LENGTH))
unfolding length_at
length_takes tables rest after frames e = tested (begins_with (codes "block") rest.items) e
  where
    tested : (b : Bool) → cond b (next_at (choice (named (codes "block"))) rest >>= λ name. natural_at 1
        MAX_BLOCK_LENGTH name.1 >>= λ n. Ok (Some n.0, n.1)) (Ok (None, rest)) ≡ pair frames after →
        Takes tables rest after (length_symbols frames) × IfSome frames (λ n. (1 ≤ n) × (n ≤ MAX_BLOCK_LENGTH))
    tested true e =
        let a = bind_ok (next_at (choice (named (codes "block"))) rest) _ (frames, after) e in
        let b = bind_ok (natural_at 1 MAX_BLOCK_LENGTH a.0.1) _ (frames, after) a.2 in
        let p = pair_is (Some b.0.0) frames b.0.1 after b.2 in
        let read : natural_at 1 MAX_BLOCK_LENGTH a.0.1 ≡ pair b.0.0 after =
        read_to (natural_at 1 MAX_BLOCK_LENGTH a.0.1) b.0 after b.1 p.1 in
        let t = natural_takes tables 1 MAX_BLOCK_LENGTH a.0.1 after b.0.0 read in
        rw (← p.0) (
          Takes-then (word_takes tables (codes "block") rest a.0.1 a.0.0 a.1) t.0,
          (t.1, t.2),
        )
    tested false e =
        let p = pair_is None frames rest after e in
        rw (← p.0) (Takes-none tables rest after p.1, tt)

length_read : (tables : List Named) (frames : Option ℕ) (items between : List Item) (end : ℕ) →
    IfSome frames (λ n. (1 ≤ n) × (n ≤ MAX_BLOCK_LENGTH)) → Strips tables items (length_symbols frames) between →
    begins_with (codes "block") between ≡ false
    → length_at (record { items = items; end = end }) ≡ Ok (frames, record { items = between; end = end })
unfolding length_at
length_read tables None items between end fits first none = rw (first, none) refl
length_read tables (Some n) items between end fits first none =
    let s = Strips-split tables items (Name (codes "block") ∷ []) (Numeral (pos n) ∷ []) between first in
    rw (
      begins_word tables (codes "block") items between (Numeral (pos n) ∷ []) first,
      word_read tables (codes "block") items s.0 end s.1,
      natural_read tables 1 MAX_BLOCK_LENGTH n s.0 between end fits.0 fits.1 s.2,
    ) refl

-- blocks begin with no word that is none of theirs
begins_blocks : (tables : List Named) (name : List ℕ) (blocks : List Block) (items left : List Item)
    (more : List Symbol) → named name (codes "output") ≡ None → ((w : Word) → named name (name_of w) ≡ None)
    → Strips tables items (flat_map block_symbols blocks ++ Name (codes "output") ∷ more) left →
    begins_with name items ≡ false
begins_blocks tables name [] items left more output words h =
    begins_other tables name (codes "output") items left more output h
begins_blocks tables name (b ∷ blocks) items left more output words h =
    let regrouped : flat_map block_symbols (b ∷ blocks) ++ Name (codes "output") ∷ more ≡ block_symbols b ++
    (flat_map block_symbols blocks ++ Name (codes "output") ∷ more) =
    ap (λ (x : List Symbol). x ++ Name (codes "output") ∷ more) (flat_map-cons block_symbols b blocks) ∙
    append_assoc (block_symbols b) (flat_map block_symbols blocks) (Name (codes "output") ∷ more) in
    let first = subst (λ (x : List Symbol). Strips tables items x left) regrouped h in
    begins_other tables name (name_of (word_of b)) items left
    (map argument_symbol (arguments b) ++ (flat_map block_symbols blocks ++ Name (codes "output") ∷ more))
    (words (word_of b)) first

-- nor do tables begin with the word of the block length
begins_tables : (tables named : List Named) (blocks : List Block) (items between left : List Item) →
    Strips tables items (flat_map table_symbols named) between →
    Strips tables between (flat_map block_symbols blocks ++ Name (codes "output") ∷ []) left →
    begins_with (codes "block") items ≡ false
begins_tables tables [] blocks items between left first then =
    rw first (begins_blocks tables (codes "block") blocks between left [] refl no_length then)
begins_tables tables (t ∷ named) blocks items between left first then =
    begins_other tables (codes "block") (codes "table") items between
    (Name t.name ∷ braced t.numbers ++ flat_map table_symbols named) refl
    (subst (λ (x : List Symbol). Strips tables items x between) (flat_map-cons table_symbols t named) first)

-- ---- the input

-- no input is a WAVE file of the extensible form
no_wavex : (run : List ℕ) (c : Container) → by_name container_name input_containers run ≡ Some c → c ≢ container.Wavex
unfolding by_name
no_wavex run c e = tested (bytes_eq run (codes "wave")) (bytes_eq run (codes "raw")) e
  where
    tested : (a b : Bool) → cond a (Some container.Wave) (cond b (Some container.Raw) None) ≡ Some c →
        c ≢ container.Wavex
    tested true b e = λ same. absurd cc
    tested false true e = λ same. absurd cc
    tested false false e = absurd cc

no_wavex_at : (rest after : Rest) (c : Container) → next_at (choice (by_name container_name input_containers)) rest ≡
    Ok (c, after) → c ≢ container.Wavex
no_wavex_at rest after c e =
    let n = next_takes (choice (by_name container_name input_containers)) rest after c e in
    let run = choice_run (by_name container_name input_containers) n.0.offset n.0.token c n.3 in
    no_wavex run.0 c run.2

kind_takes : (tables : List Named) (wanted : Container) (rest after : Rest) (k : InputKind) →
    wanted ≢ container.Wavex → kind_at wanted rest ≡ Ok (k, after) → (container_of k ≡ wanted) ×
    Takes tables rest after (rate_symbols k) × HasRate k
unfolding kind_at
kind_takes tables container.Wavex rest after k differs e = absurd (differs refl)
kind_takes tables container.Wave rest after k differs e =
    let p = pair_is kind.Wave k rest after e in
    rw (← p.0) (refl, Takes-none tables rest after p.1, tt)
kind_takes tables container.Raw rest after k differs e =
    let b = bind_ok (natural_at 1 4294967295 rest) _ (k, after) e in
    let p = pair_is (kind.Raw b.0.0) k b.0.1 after b.2 in
    let read : natural_at 1 4294967295 rest ≡ pair b.0.0 after =
    read_to (natural_at 1 4294967295 rest) b.0 after b.1 p.1 in
    let t = natural_takes tables 1 4294967295 rest after b.0.0 read in
    rw (← p.0) (refl, t.0, (t.1, t.2))

kind_read : (tables : List Named) (k : InputKind) (items left : List Item) (end : ℕ) → HasRate k →
    Strips tables items (rate_symbols k) left → kind_at (container_of k) (record { items = items; end = end }) ≡ Ok
    (k, record { items = left; end = end })
unfolding kind_at
kind_read tables kind.Wave items left end fits h = rw h refl
kind_read tables (kind.Raw rate) items left end fits h =
    rw (natural_read tables 1 4294967295 rate items left end fits.0 fits.1 h) refl

record FitsInput (input : Input) : Type 0 where
  channels : (1 ≤ input.channels) × (input.channels ≤ MAX_CHANNELS)
  rate : HasRate input.kind

input_takes : (tables : List Named) (rest after : Rest) (input : Input) → input_at rest ≡ Ok (input, after) →
    Takes tables rest after (input_symbols input) × FitsInput input
unfolding input_at
input_takes tables rest after input e =
    let a = bind_ok (next_at (choice (named (codes "input"))) rest) _ (input, after) e in
    let b = bind_ok (next_at (choice (by_name container_name input_containers)) a.0.1) _ (input, after) a.2 in
    let f = bind_ok (next_at (choice (by_name format_name every_format)) b.0.1) _ (input, after) b.2 in
    let c = bind_ok (natural_at 1 MAX_CHANNELS f.0.1) _ (input, after) f.2 in
    let k = bind_ok (kind_at b.0.0 c.0.1) _ (input, after) c.2 in
    let p = pair_is (record { kind = k.0.0; format = f.0.0; channels = c.0.0 }) input k.0.1 after k.2 in
    let read : kind_at b.0.0 c.0.1 ≡ pair k.0.0 after = read_to (kind_at b.0.0 c.0.1) k.0 after k.1 p.1 in
    let tk = kind_takes tables b.0.0 c.0.1 after k.0.0 (no_wavex_at a.0.1 b.0.1 b.0.0 b.1) read in
    let tc = natural_takes tables 1 MAX_CHANNELS f.0.1 c.0.1 c.0.0 c.1 in
    let rates = rate_symbols k.0.0 in
    let t0 = Takes-then (word_takes tables (codes "input") rest a.0.1 a.0.0 a.1)
    (Takes-then (name_takes tables container_name input_containers a.0.1 b.0.1 b.0.0 b.1)
    (Takes-then (name_takes tables format_name every_format b.0.1 f.0.1 f.0.0 f.1) (Takes-then tc.0 tk.1))) in
    let takes = subst (λ (c' : Container). Takes tables rest after
    (Name (codes "input") ∷ Name (container_name c') ∷ Name (format_name f.0.0) ∷ Numeral (pos c.0.0) ∷ rates))
    (sym tk.0) t0 in
    rw (← p.0) (takes, record { channels = (tc.1, tc.2); rate = tk.2 })

input_read : (tables : List Named) (input : Input) (items left : List Item) (end : ℕ) → FitsInput input →
    Strips tables items (input_symbols input) left → input_at (record { items = items; end = end }) ≡ Ok
    (input, record { items = left; end = end })
unfolding input_at
input_read tables input items left end fits h =
    let rates = rate_symbols input.kind in
    let named = Name (container_name (container_of input.kind)) in
    let a = Strips-split tables items (Name (codes "input") ∷ [])
    (named ∷ Name (format_name input.format) ∷ Numeral (pos input.channels) ∷ rates) left h in
    let b = Strips-split tables a.0 (named ∷ []) (Name (format_name input.format) ∷ Numeral (pos input.channels) ∷
    rates) left a.2 in
    let f = Strips-split tables b.0 (Name (format_name input.format) ∷ []) (Numeral (pos input.channels) ∷ rates) left
    b.2 in
    let c = Strips-split tables f.0 (Numeral (pos input.channels) ∷ []) rates left f.2 in
    rw (
      word_read tables (codes "input") items a.0 end a.1,
      name_read tables container_name input_containers (container_of input.kind) a.0 b.0 end
          (input_container_again input.kind) b.1,
      name_read tables format_name every_format input.format b.0 f.0 end (format_again input.format) f.1,
      natural_read tables 1 MAX_CHANNELS input.channels f.0 c.0 end fits.channels.0 fits.channels.1 c.1,
      kind_read tables input.kind c.0 left end fits.rate c.2,
    ) refl

-- ---- the script

nothing_is : (items : List Item) (x : ⊤) → nothing_of items ≡ Ok x → items ≡ []
nothing_is [] x e = refl
nothing_is (item ∷ items) x e = absurd ((elim item.token as
    (λ (t : Token). nothing_of (record { offset = item.offset; token = t } ∷ items) ≡ Ok x → ⊥)
    [ Bad ↦ (λ h. cc) | Open ↦ (λ h. cc) | Close ↦ (λ h. cc) | Run run ↦ (λ h. cc) ]) e)

-- the symbols of a script as they are read
abbrev read_symbols : List Named → Script → List Symbol
read_symbols tables s = (Name (codes "dspfx") ∷ []) ++
    ((Numeral (pos s.version) ∷ []) ++ (input_symbols s.input ++
    (length_symbols s.block ++ (flat_map table_symbols tables ++
    ((flat_map block_symbols s.blocks ++ Name (codes "output") ∷ []) ++ Name (container_name s.output) ∷ [])))))

same_symbols : (tables : List Named) (s : Script) → read_symbols tables s ≡ symbols tables s
same_symbols tables s = simp append_assoc

-- a script was read, and nothing is left
record IsScript (items : List Item) (s : Script) : Type 0 where
  tables : List Named
  stand : MayStand s.version tables
  strips : Strips tables items (symbols tables s) []
  fit : IsFit s

one_at_most : (n : ℕ) → n + 0 ≤ 1 → n ≤ 1
one_at_most n h = omega arith

script_takes : (rest : Rest) (s : Script) → script_at rest ≡ Ok s → IsScript rest.items s
unfolding script_at
script_takes rest s e =
    let d = bind_ok (next_at (choice (named (codes "dspfx"))) rest) _ s e in
    let v = bind_ok (natural_at 1 MAX_VERSION d.0.1) _ s d.2 in
    let i = bind_ok (input_at v.0.1) _ s v.2 in
    let n = bind_ok (length_at i.0.1) _ s i.2 in
    let g = bind_ok (environment_at v.0.0 n.0.1) _ s n.2 in
    let b = bind_ok (blocks_at g.0.0 MAX_BLOCKS false (input_flow i.0.0) g.0.1) _ s g.2 in
    let c = bind_ok (next_at (choice (by_name container_name output_containers)) b.0.1) _ s b.2 in
    let z = bind_ok (nothing_of c.0.1.items) _ s c.2 in
    let made : Script = record { version = v.0.0; input = i.0.0; block = n.0.0; blocks = b.0.0; output = c.0.0 } in
    let same : made ≡ s = ok_is made s z.2 in
    let tables = tables_in g.0.0 in
    let tv = natural_takes tables 1 MAX_VERSION d.0.1 v.0.1 v.0.0 v.1 in
    let ti = input_takes tables v.0.1 i.0.1 i.0.0 i.1 in
    let tn = length_takes tables i.0.1 n.0.1 n.0.0 n.1 in
    let tg = environment_takes tables v.0.0 n.0.1 g.0.1 g.0.0 g.1 in
    let tb = blocks_take g.0.0 MAX_BLOCKS false (input_flow i.0.0) g.0.1 b.0.1 b.0.0 b.1 in
    let tc = name_takes tables container_name output_containers b.0.1 c.0.1 c.0.0 c.1 in
    let t0 = Takes-then (word_takes tables (codes "dspfx") rest d.0.1 d.0.0 d.1)
    (Takes-then tv.0 (Takes-then ti.0 (Takes-then tn.0 (Takes-then tg.takes (Takes-then tb.takes tc))))) in
    let strips : Strips tables rest.items (read_symbols tables made) [] =
    rw (nothing_is c.0.1.items z.0 z.1) at t0.strips in
    let fit : IsFit made = record {
      version = (tv.1, tv.2);
      channels = ti.1.channels;
      rate = ti.1.rate;
      block = tn.1;
      blocks = tb.few;
      one_correlate = one_at_most (correlates b.0.0) tb.once;
      chain = tb.chain;
    } in
    subst (IsScript rest.items) same (record {
      tables = tables;
      stand = tg.stand;
      strips =
          subst (λ (x : List Symbol). Strips tables rest.items x []) (same_symbols tables made) strips;
      fit = fit;
    })

script_read : (tables : List Named) (items : List Item) (end : ℕ) (s : Script) → MayStand s.version tables →
    Strips tables items (symbols tables s) [] → IsFit s → script_at (record { items = items; end = end }) ≡ Ok s
unfolding script_at
script_read tables items end s stand h fit =
    let named = flat_map table_symbols tables in
    let blocks = flat_map block_symbols s.blocks ++ Name (codes "output") ∷ [] in
    let chain = blocks ++ Name (container_name s.output) ∷ [] in
    let strips : Strips tables items (read_symbols tables s) [] =
    subst (λ (x : List Symbol). Strips tables items x []) (sym (same_symbols tables s)) h in
    let d = Strips-split tables items (Name (codes "dspfx") ∷ [])
    ((Numeral (pos s.version) ∷ []) ++ (input_symbols s.input ++ (length_symbols s.block ++ (named ++ chain)))) []
    strips in
    let v = Strips-split tables d.0 (Numeral (pos s.version) ∷ [])
    (input_symbols s.input ++ (length_symbols s.block ++ (named ++ chain))) [] d.2 in
    let i = Strips-split tables v.0 (input_symbols s.input) (length_symbols s.block ++ (named ++ chain)) [] v.2 in
    let n = Strips-split tables i.0 (length_symbols s.block) (named ++ chain) [] i.2 in
    let g = Strips-split tables n.0 named chain [] n.2 in
    let b = Strips-split tables g.0 blocks (Name (container_name s.output) ∷ []) [] g.2 in
    let environment = environment_of s.version tables in
    let first : Strips (tables_in environment) g.0 blocks b.0 = rw (tables_of s.version tables stand) b.1 in
    rw (
      word_read tables (codes "dspfx") items d.0 end d.1,
      natural_read tables 1 MAX_VERSION s.version d.0 v.0 end fit.version.0 fit.version.1 v.1,
      input_read tables s.input v.0 i.0 end (record { channels = fit.channels; rate = fit.rate }) i.1,
      length_read tables s.block i.0 n.0 end fit.block n.1 (begins_tables tables tables s.blocks n.0 g.0 b.0 g.1 b.1),
      environment_read s.version tables n.0 g.0 end stand g.1
          (begins_blocks tables (codes "table") s.blocks g.0 b.0 [] refl no_table b.1),
      blocks_read environment MAX_BLOCKS false (input_flow s.input) s.blocks g.0 b.0 end first fit.blocks
          (omega (arith, fit.one_correlate)) fit.chain,
      name_read tables container_name output_containers s.output b.0 [] end (container_again s.output) b.2,
    ) refl

-- ---- texts

pub reading_takes : (text : List ℕ) (s : Script) → reading text ≡ Ok s → Reads text s
unfolding reading
reading_takes text s e =
    let short = refused (ltb MAX_SCRIPT (length text)) _ _ s e in
    let t = script_takes (rest_of 0 text) s short.1 in
    record {
      short = ltb-false _ _ short.0;
      tables = t.tables;
      stand = t.stand;
      spelled =
          spells_from_Strips t.tables (items text) (symbols t.tables s) t.strips;
      fit = t.fit;
    }

pub reading_read : (text : List ℕ) (s : Script) → Reads text s → reading text ≡ Ok s
unfolding reading
reading_read text s r =
    let short : ltb MAX_SCRIPT (length text) ≡ false = le-ltb _ _ r.short in
    rw short (script_read r.tables (items text) (length text) s r.stand
    (Strips-from_spells r.tables (items text) (symbols r.tables s) r.spelled) r.fit)

pub one_script : (text : List ℕ) (s t : Script) → Reads text s → Reads text t → s ≡ t
one_script text s t p q = ok_is s t (sym (reading_read text s p) ∙ reading_read text t q)

no_fault : (r : Result Script ScriptFault) → result_err r ≡ None → (s : Script) × (r ≡ Ok s)
no_fault (Ok s) e = (s, refl)
no_fault (Err f) e = absurd cc

pub reads_or_fails : (text : List ℕ) → ((s : Script) × Reads text s) ↔ (first_fault text ≡ None)
reads_or_fails text = (
  λ (s, r). ap result_err (reading_read text s r),
  λ e. let n = no_fault (reading text) e in
      (n.0, reading_takes text n.0 n.1),
)

-- ---- what parse answers

pub answers_read : (text : List ℕ) (r : Result Script ParseFault) → GivesUnlessMemory (λ s. s) r (reading text) →
    IfOk r (Reads text)
answers_read text (Ok s) given = reading_takes text s given
answers_read text (Err e) given = tt

pub answers_fault : (text : List ℕ) (r : Result Script ParseFault) (f : ScriptFault) →
    GivesUnlessMemory (λ s. s) r (reading text) → r ≡ Err (errors.Script f) → first_fault text ≡ Some f
answers_fault text r f given e = let P : Result Script ParseFault → Type 0 =
    λ x. GivesUnlessMemory (λ s. s) x (reading text) in ap result_err (subst P e given)

pub answers_script : (text : List ℕ) (r : Result Script ParseFault) (s : Script) →
    GivesUnlessMemory (λ s. s) r (reading text) → Reads text s → GivesUnlessMemory (λ s. s) r (Ok s)
answers_script text r s given reads = subst (GivesUnlessMemory (λ s. s) r) (reading_read text s reads) given

fault_is : (r : Result Script ScriptFault) (f : ScriptFault) → result_err r ≡ Some f → r ≡ Err f
fault_is (Ok s) f e = absurd cc
fault_is (Err g) f e = let same : g ≡ f = cc in ap Err same

pub answers_faulty : (text : List ℕ) (r : Result Script ParseFault) (f : ScriptFault) →
    GivesUnlessMemory (λ s. s) r (reading text) → first_fault text ≡ Some f → GivesUnlessMemory (λ s. s) r (Err f)
answers_faulty text r f given e = subst (GivesUnlessMemory (λ s. s) r) (fault_is (reading text) f e) given
