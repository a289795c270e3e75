-- The three servers: their numbers, and maps from them that can be changed at one place.
use Rattle.std.specs.Prelude.{ℕ, Bool, true, false, cond, ◌==◌}
pub use Rattle.protocol.specs.declared.ServerId.{ServerId}
pub use Rattle.protocol.specs.declared.ServerId.TheVariants.{One as one, Two as two, Three as three}

abbrev pub number_of : ServerId → ℕ
number_of one = 1
number_of two = 2
number_of three = 3

-- f of the server with the number n, and none where there is no such server
abbrev pub numbered : {A : Type 0} → ℕ → (ServerId → A) → A → A
numbered n f none = cond (n == 1) (f one) (cond (n == 2) (f two) (cond (n == 3) (f three) none))

abbrev pub same : ServerId → ServerId → Bool
same one one = true
same one two = false
same one three = false
same two one = false
same two two = true
same two three = false
same three one = false
same three two = false
same three three = true

-- the other two of a server, the lower first
abbrev pub low : ServerId → ServerId
low one = two
low two = one
low three = one

abbrev pub high : ServerId → ServerId
high one = three
high two = three
high three = two

-- f, but x at i
abbrev pub put : {A : Type 0} → (ServerId → A) → ServerId → A → ServerId → A
put f i x j = cond (same j i) x (f j)
