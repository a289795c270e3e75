-- Bounds of a product; the floor of a quotient.
use Rattle.std.proofs.Common.{suc, ◌*◌, ◌/◌, ℤ, pos, negsuc, ◌+ℤ◌, ◌-ℤ◌, ◌*ℤ◌, ◌≤ℤ◌, add-mul, arith, w32, SFits}
use Rattle.std.proofs.lemmas.Int.{ints}
use Rattle.std.proofs.Math.Nat.{div-le_self}
use Rattle.std.proofs.lemmas.Nat.{mul-le, div-add-mod', mod_below}
use Rattle.sheet.specs.Rules.{floor_div}
use Rattle.sheet.specs.Grading.{Floors}

pub product_bounded : (x y : ℤ) → negsuc 21 ≤ℤ x → x ≤ℤ pos 22 → negsuc 99999 ≤ℤ y → y ≤ℤ pos 100000 → (negsuc 2199999 ≤ℤ (x *ℤ y)) × ((x *ℤ y) ≤ℤ pos 2200000)
product_bounded (pos a) (pos b) p q r s = let m = mul-le a b 22 100000 (omega (arith, ints)) (omega (arith, ints)) in (omega (arith, ints), omega (arith, ints))
product_bounded (pos a) (negsuc b) p q r s = let m = mul-le a (suc b) 22 100000 (omega (arith, ints)) (omega (arith, ints)) in (omega (arith, ints), omega (arith, ints))
product_bounded (negsuc a) (pos b) p q r s = let m = mul-le (suc a) b 22 100000 (omega (arith, ints)) (omega (arith, ints)) in (omega (arith, ints), omega (arith, ints))
product_bounded (negsuc a) (negsuc b) p q r s = let m = mul-le (suc a) (suc b) 22 100000 (omega (arith, ints)) (omega (arith, ints)) in (omega (arith, ints), omega (arith, ints))

pub floors : Floors
floors (pos a) d h = let e = div-add-mod' a d in let m = mod_below a d h in (omega (arith, ints), omega (arith, ints))
floors (negsuc a) d h = let e = div-add-mod' a d in let p = add-mul (a / d) 1 d in let m = mod_below a d h in (omega (arith, ints), omega (arith, ints))

floor_bounded : (z q : ℤ) → negsuc 2999999 ≤ℤ z → z ≤ℤ pos 3000000 → pos 1 ≤ℤ q → (negsuc 2999999 ≤ℤ floor_div z (pos 2 *ℤ q)) × (floor_div z (pos 2 *ℤ q) ≤ℤ pos 3000000)
floor_bounded (pos a) (pos b) p r s = (omega (arith, ints, div-le_self a (2 * b)), omega (arith, ints, div-le_self a (2 * b)))
floor_bounded (negsuc a) (pos b) p r s = (omega (arith, ints, div-le_self a (2 * b)), omega (arith, ints, div-le_self a (2 * b)))
floor_bounded z (negsuc b) p r s = absurd (omega (arith, ints))

-- every number on the way from the ranges of a grading to its quotient fits
pub record Steps (size a q s : ℤ) : Type 0 where
  pub far : SFits w32 (s -ℤ size)
  pub twice : SFits w32 (pos 2 *ℤ (s -ℤ size))
  pub spread : SFits w32 (pos 2 *ℤ (s -ℤ size) *ℤ a)
  pub low_spread : negsuc 2199999 ≤ℤ (pos 2 *ℤ (s -ℤ size) *ℤ a)
  pub high_spread : (pos 2 *ℤ (s -ℤ size) *ℤ a) ≤ℤ pos 2200000
  pub low : negsuc 2999999 ≤ℤ floor_div (pos 2 *ℤ (s -ℤ size) *ℤ a +ℤ q) (pos 2 *ℤ q)
  pub high : floor_div (pos 2 *ℤ (s -ℤ size) *ℤ a +ℤ q) (pos 2 *ℤ q) ≤ℤ pos 3000000

pub steps : (size a q s : ℤ) → (pos 1 ≤ℤ size) × (size ≤ℤ pos 12) → (negsuc 99999 ≤ℤ a) × (a ≤ℤ pos 100000) → (pos 1 ≤ℤ q) × (q ≤ℤ pos 1000) → (pos 1 ≤ℤ s) × (s ≤ℤ pos 12)
    → Steps size a q s
steps size a q s i j k l =
    let b = product_bounded (pos 2 *ℤ (s -ℤ size)) a (omega (arith, ints)) (omega (arith, ints)) j.0 j.1 in
    let f = floor_bounded (pos 2 *ℤ (s -ℤ size) *ℤ a +ℤ q) q (omega (arith, ints)) (omega (arith, ints)) k.0 in
    record {
      far = omega (arith, ints);
      twice = omega (arith, ints);
      spread = omega (arith, ints);
      low_spread = b.0;
      high_spread = b.1;
      low = f.0;
      high = f.1;
    }
