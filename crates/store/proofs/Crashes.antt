-- What a crash leaves of a store.
use Rattle.std.proofs.Common.{◌≡◌, ℕ, ◌≤◌, length, take, ◌∙◌, subst, arith, take_all}
use Rattle.store.specs.Stores.{StoreState, Crashed, synced, surviving}

-- where every entry survives, the store is left as a sync leaves it
pub surviving_all : (m : StoreState) (c : ℕ) → c ≡ length m.entries → surviving c m ≡ synced m
surviving_all m c all =
    let whole : take c m.entries ≡ m.entries = take_all c m.entries (omega arith) in
    rw (whole, all)

-- a crash of a synced store keeps every entry
pub synced_crash : (m n after : StoreState) (c : ℕ) → n ≡ synced m → Crashed n c after → (c ≡ length m.entries) × (after ≡ synced m)
synced_crash m n after c e crashed =
    let w : Crashed (synced m) c after = subst (λ s. Crashed s c after) e crashed in
    let low : length m.entries ≤ c = w.low in
    let high : c ≤ length m.entries = w.high in
    let all : c ≡ length m.entries = omega arith in
    (all, w.left ∙ surviving_all (synced m) c all)
