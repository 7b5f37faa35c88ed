-- Places of a cycle: 0 to n - 1 and again.
use Rattle.std.specs.Prelude.{ℕ, ◌+◌, ◌-◌, cond, ◌==◌}

abbrev pub next : ℕ → ℕ → ℕ
next n p = cond (p + 1 == n) 0 (p + 1)

abbrev pub prev : ℕ → ℕ → ℕ
prev n p = cond (p == 0) (n - 1) (p - 1)
