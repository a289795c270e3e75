-- What numbers and measures are written as.
use Rattle.std.specs.Prelude.{◌≡◌, ℕ, suc, ◌-◌, ◌/◌, ◌%◌, ◌^◌, ◌<◌, cond, ◌&&◌, List, ◌∷◌, ◌++◌, ℤ, pos, negsuc, Some, None, decimal, Option, FitsSigned, nat_le, slice_index_or}
use Rattle.std.specs.Int.{w32}
use Rattle.std.specs.Str.Parse.{IsNumeral, digits_value as value, without_leading_plus, without_leading_sign, signed_digits_value}

-- The text writes z, which 32 bits hold: decimal digits, at least one, with at most one minus sign before them and no plus sign.
pub record Written (bs : List ℕ) (z : ℤ) : Type 0 where
  pub no_plus : slice_index_or bs 0 0 ≡ 43 → ⊥
  pub digits : IsNumeral 10 (without_leading_sign bs)
  pub fits : FitsSigned w32 (signed_digits_value 10 bs)
  pub value : z ≡ signed_digits_value 10 bs

-- The text writes n, which 32 bits hold: decimal digits, at least one, and no sign.
pub record WrittenPlain (bs : List ℕ) (n : ℕ) : Type 0 where
  pub no_plus : slice_index_or bs 0 0 ≡ 43 → ⊥
  pub digits : IsNumeral 10 (without_leading_plus bs)
  pub fits : value 10 (without_leading_plus bs) < 2 ^ 32
  pub value_is : n ≡ value 10 (without_leading_plus bs)

-- The value of a hexadecimal digit, by its code: 0 to 9, a to f.
abbrev pub hex_value : ℕ → Option ℕ
hex_value c = cond (nat_le 48 c && nat_le c 57) (Some (c - 48)) (cond (nat_le 97 c && nat_le c 102) (Some (c - 87)) None)

-- Tenths of a millimetre as millimetres with one decimal, and a minus sign before what is below nothing.
abbrev pub pointed : ℕ → List ℕ
pointed n = decimal (n / 10) ++ (46 ∷ decimal (n % 10))

abbrev pub in_millimetres : ℤ → List ℕ
in_millimetres (pos n) = pointed n
in_millimetres (negsuc n) = 45 ∷ pointed (suc n)
