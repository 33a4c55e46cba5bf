-- One channel of a signal is the list of its samples; before its start it is 0.
use Rattle.std.specs.Prelude.{ℕ, zero, suc, ◌-◌, ℤ, pos, ◌+ℤ◌, List, [], ◌∷◌, map, reverse, get_or, nat_lt}
use Rattle.std.specs.Prelude.{if◌then◌else◌}
use Rattle.std.specs.List.{range_with_len}

-- x(n), and 0 past the end
abbrev pub sample : List ℤ → ℕ → ℤ
sample x n = get_or x n (pos 0)

-- x(n-k), and 0 before the start
abbrev pub delayed : List ℤ → ℕ → ℕ → ℤ
delayed x n k = if nat_lt n k then pos 0 else sample x (n - k)

-- f(0), .., f(n-1)
abbrev pub values : {A : Type 0} → ℕ → (ℕ → A) → List A
values n f = map f (range_with_len 0 n)

-- f(0) + .. + f(n-1)
abbrev pub sum_below : ℕ → (ℕ → ℤ) → ℤ
sum_below zero f = pos 0
sum_below (suc n) f = sum_below n f +ℤ f n

-- What a recurrence gives of a history. Histories have the newest first: x(n) is at 0 and x(n-k) is at k.
-- Each output is given by the inputs up to its own and by the outputs before it.
abbrev pub outputs_of_history : {A B : Type 0} → (List A → List B → B) → List A → List B
outputs_of_history next [] = []
outputs_of_history next (x ∷ past) =
    let earlier = outputs_of_history next past in
    next (x ∷ past) earlier ∷ earlier

-- the outputs of a recurrence for a signal
abbrev pub outputs : {A B : Type 0} → (List A → List B → B) → List A → List B
outputs next x = reverse (outputs_of_history next (reverse x))
