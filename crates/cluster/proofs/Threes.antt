-- The three servers: by number, and at their places in a list.
use Rattle.std.proofs.Common.{◌≡◌, ℕ, ◌<◌, Bool, true, false, cond, eqb, List, length, set, Ok, Err, Result, sym, refl, ap, arith}
use mathlib.Core.Path.{fun_ext}
use Rattle.std.proofs.lemmas.List.{get_or-set_same, get_or-set_other}
use Rattle.refusal.specs.declared.Refusal.{Refusal}
use Rattle.refusal.specs.declared.Refusal.TheVariants.{NoSuchServer}
use Rattle.protocol.specs.declared.ServerId.{ServerId}
use Rattle.protocol.specs.declared.ServerId.TheVariants.{One, Two, Three}
use Rattle.protocol.specs.ServerIds.{numbered, put}
use Rattle.protocol.proofs.Shelf.{put_all}
use Rattle.node.specs.Meaning.{place, of3}

-- The server with a number, as the code finds it.
abbrev pub Found : ℕ → Result ServerId Refusal → Type 0
Found n r = r ≡ numbered n Ok (Err NoSuchServer)

pick : {B : Type 0} (a b c : Bool) (j : ServerId) (f : ServerId → B) (d : B)
    → Ok j ≡ cond a (Ok One) (cond b (Ok Two) (cond c (Ok Three) (Err NoSuchServer))) → cond a (f One) (cond b (f Two) (cond c (f Three) d)) ≡ f j
pick true b c j f d h = let e : One ≡ j = cc in ap f e
pick false true c j f d h = let e : Two ≡ j = cc in ap f e
pick false false true j f d h = let e : Three ≡ j = cc in ap f e
pick false false false j f d h = cc

miss : {B : Type 0} (a b c : Bool) (e : Refusal) (f : ServerId → B) (d : B)
    → Err e ≡ cond a (Ok One) (cond b (Ok Two) (cond c (Ok Three) (Err NoSuchServer))) → (cond a (f One) (cond b (f Two) (cond c (f Three) d)) ≡ d) × (e ≡ NoSuchServer)
miss true b c e f d h = (cc, cc)
miss false true c e f d h = (cc, cc)
miss false false true e f d h = (cc, cc)
miss false false false e f d h = (refl, cc)

pub numbered_some : {B : Type 0} (n : ℕ) (j : ServerId) (f : ServerId → B) (d : B) → Found n (Ok j) → numbered n f d ≡ f j
numbered_some n j f d h = pick (eqb n 1) (eqb n 2) (eqb n 3) j f d h

pub numbered_none : {B : Type 0} (n : ℕ) (e : Refusal) (f : ServerId → B) (d : B) → Found n (Err e) → numbered n f d ≡ d
numbered_none n e f d h = (miss (eqb n 1) (eqb n 2) (eqb n 3) e f d h).0

pub not_found : (n : ℕ) (e : Refusal) → Found n (Err e) → e ≡ NoSuchServer
not_found n e h = (miss (eqb n 1) (eqb n 2) (eqb n 3) e (λ j. j) One h).1

place_apart : (i j : ServerId) → (i ≡ j → ⊥) → place i ≡ place j → ⊥
place_apart One One n e = n refl
place_apart One Two n e = omega arith
place_apart One Three n e = omega arith
place_apart Two One n e = omega arith
place_apart Two Two n e = n refl
place_apart Two Three n e = omega arith
place_apart Three One n e = omega arith
place_apart Three Two n e = omega arith
place_apart Three Three n e = n refl

pub place_small : (i : ServerId) → place i < 3
place_small One = omega arith
place_small Two = omega arith
place_small Three = omega arith

pub of3_set : {A : Type 0} (d : A) (xs : List A) (i : ServerId) (x : A) → length xs ≡ 3 → of3 d (set xs (place i) x) ≡ put (of3 d xs) i x
of3_set d xs i x l = fun_ext (λ j. sym (put_all (of3 d xs) i x (λ j y. y ≡ of3 d (set xs (place i) x) j)
    (sym (get_or-set_same xs (place i) x d (omega (arith, place_small i))))
    (λ j n. sym (get_or-set_other xs (place i) (place j) x d (place_apart j i n))) j))
