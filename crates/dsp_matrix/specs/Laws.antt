-- The blocks of matrices work on whole groups: the laws of the impls. A ghost item cites nothing of its own crate but
-- specs, so they stand here. No clause cites them.
use Rattle.std.specs.Prelude.{Option, IfSome}
use Rattle.std.proofs.Common.{sym, subst, ◌≡◌, ◌∙◌, ap, refl, ℕ, ◌-◌, ◌*◌, ◌/◌, ◌<◌, ◌≤◌, List, ℤ, arith}
use Rattle.dsp_defs.specs.Shape.{group_of}
use Rattle.dsp_defs.specs.declared.format.Fmt.{Fmt}
use Rattle.dsp_defs.specs.declared.script.Block.{Block}
use Rattle.dsp_matrix.specs.Groups.{Group, IsGrouped}
use Rattle.std.proofs.lemmas.Nat.{mul-le}
use Rattle.std.proofs.Math.Nat.{mul-sub}
use Rattle.dsp_unit.specs.Filter.{IsByChannel}
use Rattle.dsp_defs.proofs.KeptLaws.{kept_of_channel-place}
use Rattle.dsp_defs.specs.declared.limits.TheConstants.{MAX_MATRIX_SIDE}
use Rattle.dsp_defs.specs.declared.script.Block.TheVariants.{MatAdd, MatSub, MatScale, MatTrans, MatMult}
use Rattle.dsp_matrix.specs.Matrices.{group, IsSide, IsElementwiseIn, IsProductIn}

-- a group has at least one sample
pub has-groups : (format : Fmt) (block : Block) (g : Group) → IsGrouped format block g →
    IfSome (group_of block) (λ k. 0 < k.0)
has-groups format block g is = subst (λ (o : Option (ℕ × ℕ)). IfSome o (λ k. 0 < k.0)) (sym is.group) is.some

-- ---- sides

some-elements : (rows columns : ℕ) → IsSide rows → IsSide columns → 0 < rows * columns
some-elements rows columns r c = let rows' = mul-le 1 1 rows columns r.0 c.0 in omega (arith, rows')

few-elements : (rows columns : ℕ) → IsSide rows → IsSide columns → rows * columns ≤ MAX_MATRIX_SIDE * MAX_MATRIX_SIDE
few-elements rows columns r c = let most = mul-le rows columns 64 64 r.1 c.1 in omega (arith, most)

-- ---- costs

add-by-channel : (format : Fmt) (rows columns : ℕ) (matrix : List ℤ) → IsByChannel format (MatAdd rows columns matrix)
add-by-channel format rows columns matrix = record {
  live_is = refl;
  whole_is = refl;
  channels_same = λ c. refl;
  format_same = refl;
  keeps_is = λ c x. refl;
  kinds_are = λ c n. refl;
  keeps_place = λ x. kept_of_channel-place format (MatAdd rows columns matrix) x tt;
  no_measures = λ c number kept. refl;
  live_cost = λ c n. omega arith;
  so_far = λ c n taken given. omega arith;
  turns = λ c m n. omega arith;
}

sub-by-channel : (format : Fmt) (rows columns : ℕ) (matrix : List ℤ) → IsByChannel format (MatSub rows columns matrix)
sub-by-channel format rows columns matrix = record {
  live_is = refl;
  whole_is = refl;
  channels_same = λ c. refl;
  format_same = refl;
  keeps_is = λ c x. refl;
  kinds_are = λ c n. refl;
  keeps_place = λ x. kept_of_channel-place format (MatSub rows columns matrix) x tt;
  no_measures = λ c number kept. refl;
  live_cost = λ c n. omega arith;
  so_far = λ c n taken given. omega arith;
  turns = λ c m n. omega arith;
}

trans-by-channel : (format : Fmt) (rows columns : ℕ) → IsByChannel format (MatTrans rows columns)
trans-by-channel format rows columns = record {
  live_is = refl;
  whole_is = refl;
  channels_same = λ c. refl;
  format_same = refl;
  keeps_is = λ c x. refl;
  kinds_are = λ c n. refl;
  keeps_place = λ x. kept_of_channel-place format (MatTrans rows columns) x tt;
  no_measures = λ c number kept. refl;
  live_cost = λ c n. omega arith;
  so_far = λ c n taken given. omega arith;
  turns = λ c m n. omega arith;
}

one-scale : (c n : ℕ) → c * n ≡ c * (1 * n)
one-scale c n = ap (λ k. c * k) (omega arith)

less-scale : (c m n : ℕ) → c * n - c * m ≡ c * (1 * n - 1 * m)
less-scale c m n = sym (mul-sub c n m) ∙ ap (λ k. c * k) (omega arith)

scale-by-channel : (format : Fmt) (rows columns : ℕ) (fract shift : ℤ) →
    IsByChannel format (MatScale rows columns fract shift)
scale-by-channel format rows columns fract shift = record {
  live_is = refl;
  whole_is = refl;
  channels_same = λ c. refl;
  format_same = refl;
  keeps_is = λ c x. refl;
  kinds_are = λ c n. refl;
  keeps_place = λ x. kept_of_channel-place format (MatScale rows columns fract shift) x tt;
  no_measures = λ c number kept. refl;
  live_cost = λ c n. one-scale c (n / (rows * columns) * (rows * columns));
  so_far = λ c n taken given. one-scale c given;
  turns = λ c m n. less-scale c (m / (rows * columns) * (rows * columns)) (n / (rows * columns) * (rows * columns));
}

one-product : (c q r k g : ℕ) → c * q * r * k * g ≡ c * (1 * q * r * k * g)
one-product c q r k g = omega arith

less-product : (c p q r k g : ℕ) → c * q * r * k * g - c * p * r * k * g ≡ c * (1 * q * r * k * g - 1 * p * r * k * g)
less-product c p q r k g = (λ i. one-product c q r k g i - one-product c p r k g i) ∙
    sym (mul-sub c (1 * q * r * k * g) (1 * p * r * k * g))

mult-by-channel : (format : Fmt) (rows columns given : ℕ) (matrix : List ℤ) →
    IsByChannel format (MatMult rows columns given matrix)
mult-by-channel format rows columns given matrix = record {
  live_is = refl;
  whole_is = refl;
  channels_same = λ c. refl;
  format_same = refl;
  keeps_is = λ c x. refl;
  kinds_are = λ c n. refl;
  keeps_place = λ x. kept_of_channel-place format (MatMult rows columns given matrix) x tt;
  no_measures = λ c number kept. refl;
  live_cost = λ c n. one-product c (n / (rows * columns)) rows columns given;
  so_far = λ c n taken given'. one-product c (taken / (rows * columns)) rows columns given;
  turns = λ c m n. less-product c (m / (rows * columns)) (n / (rows * columns)) rows columns given;
}

group-product : (q r k g : ℕ) → 1 * q * r * k * g ≡ q * (r * k * g)
group-product q r k g = omega arith

-- ---- the blocks

pub elementwise-grouped : (format : Fmt) (block : Block) → IsElementwiseIn format block →
    IsGrouped format block (group format block)
elementwise-grouped format (MatAdd rows columns matrix) is = record {
  some = some-elements rows columns is.0 is.1;
  few_taken = few-elements rows columns is.0 is.1;
  few_given = few-elements rows columns is.0 is.1;
  by_channel = add-by-channel format rows columns matrix;
  taken = λ n. tt;
  gives = λ x. refl;
  whole_is_live = λ x. refl;
  keeps = λ x. refl;
  kinds = λ n. refl;
  place = λ n. refl;
  group = refl;
  most = λ n. refl;
  live = λ n. refl;
  whole = λ n. refl;
  live_cost = λ n. omega arith;
  turns = λ m n. refl;
}
elementwise-grouped format (MatSub rows columns matrix) is = record {
  some = some-elements rows columns is.0 is.1;
  few_taken = few-elements rows columns is.0 is.1;
  few_given = few-elements rows columns is.0 is.1;
  by_channel = sub-by-channel format rows columns matrix;
  taken = λ n. tt;
  gives = λ x. refl;
  whole_is_live = λ x. refl;
  keeps = λ x. refl;
  kinds = λ n. refl;
  place = λ n. refl;
  group = refl;
  most = λ n. refl;
  live = λ n. refl;
  whole = λ n. refl;
  live_cost = λ n. omega arith;
  turns = λ m n. refl;
}
elementwise-grouped format (MatScale rows columns fract shift) is = record {
  some = some-elements rows columns is.0 is.1;
  few_taken = few-elements rows columns is.0 is.1;
  few_given = few-elements rows columns is.0 is.1;
  by_channel = scale-by-channel format rows columns fract shift;
  taken = λ n. tt;
  gives = λ x. refl;
  whole_is_live = λ x. refl;
  keeps = λ x. refl;
  kinds = λ n. refl;
  place = λ n. refl;
  group = refl;
  most = λ n. refl;
  live = λ n. refl;
  whole = λ n. refl;
  live_cost = λ n. omega arith;
  turns = λ m n. refl;
}
elementwise-grouped format (MatTrans rows columns) is = record {
  some = some-elements rows columns is.0 is.1;
  few_taken = few-elements rows columns is.0 is.1;
  few_given = few-elements rows columns is.0 is.1;
  by_channel = trans-by-channel format rows columns;
  taken = λ n. tt;
  gives = λ x. refl;
  whole_is_live = λ x. refl;
  keeps = λ x. refl;
  kinds = λ n. refl;
  place = λ n. refl;
  group = refl;
  most = λ n. refl;
  live = λ n. refl;
  whole = λ n. refl;
  live_cost = λ n. omega arith;
  turns = λ m n. refl;
}
elementwise-grouped format block is = absurd is

pub product-grouped : (format : Fmt) (block : Block) → IsProductIn format block →
    IsGrouped format block (group format block)
product-grouped format (MatMult rows columns given matrix) is = record {
  some = some-elements rows columns is.0 is.1;
  few_taken = few-elements rows columns is.0 is.1;
  few_given = few-elements rows given is.0 is.2;
  by_channel = mult-by-channel format rows columns given matrix;
  taken = λ n. tt;
  gives = λ x. refl;
  whole_is_live = λ x. refl;
  keeps = λ x. refl;
  kinds = λ n. refl;
  place = λ n. refl;
  group = refl;
  most = λ n. refl;
  live = λ n. refl;
  whole = λ n. refl;
  live_cost = λ n. group-product (n / (rows * columns)) rows columns given;
  turns = λ m n. refl;
}
product-grouped format block is = absurd is
