-- The sizes of matrices and their products.
use Rattle.std.proofs.Common.{◌≡◌, ℕ, ◌+◌, ◌*◌, ◌/◌, ◌^◌, ◌<◌, ◌≤◌, arith}
use Rattle.std.proofs.Math.Nat.{mul-le-mul, mul-le-mul_right, mul-div-le, div-le_self}
use Rattle.std.proofs.lemmas.Int.{to_z-of_z}
use Rattle.std.proofs.lemmas.Nat.{div_below}

-- rows and columns are some numbers
pub some-numbers : (m n : ℕ) → 1 ≤ m → 1 ≤ n → 1 ≤ m * n
some-numbers m n some_m some_n = mul-le-mul some_m some_n

-- all that a channel gives fits
pub room : (n taken given : ℕ) → n ≤ 2 ^ 32 → given < 65536 → n / taken * given < 2 ^ 64
room n taken given few below =
    let fewer : n / taken ≤ 2 ^ 32 = omega (arith, div-le_self n taken) in
    let most : given ≤ 65536 = omega arith in
    let all : n / taken * given ≤ 2 ^ 32 * 65536 = mul-le-mul fewer most in
    omega (arith, all)

-- a group lies within the channel
pub group-inside : (n taken given i : ℕ) → 1 ≤ given → i < n / taken * given → i / given * taken + taken ≤ n
group-inside n taken given i some inside =
    let group : i / given + 1 ≤ n / taken = omega (arith, div_below i given (n / taken) some inside) in
    let next : (i / given + 1) * taken ≤ n / taken * taken = mul-le-mul_right taken group in
    omega (arith, next, mul-div-le n taken)

-- the products of all rows and columns, in the order of the definition
pub row-products : (groups rows columns given : ℕ)
    → groups * (rows * given) * columns ≡ 1 * groups * rows * columns * given
row-products groups rows columns given = grind arith

pub ruleset matrices = (to_z-of_z, some-numbers, room, row-products)
