-- The lines that are commands. 32 is the space.
use Rattle.std.specs.Prelude.{◌≡◌, ℕ, List, ◌∷◌, ◌++◌, codes, Option, MatchOption}
use Rattle.text.specs.Words.{Both, Number, EditIn}
use Rattle.command.specs.declared.types.Command.{Command}
use Rattle.command.specs.declared.types.Command.TheVariants.{Campaign, Deliver, Lose, Propose, Firm, Send, Apply, Outage, Restart, Standing, Look}

-- The only value of which P holds, or nothing, where P holds of none.
abbrev pub FindsOnly : {X : Type 0} → Option X → (X → Type 0) → Type 0
FindsOnly {X} r P = MatchOption r ((x : X) → P x → ⊥) (λ x. P x × ((y : X) → P y → y ≡ x))

-- Two and three numbers.
abbrev pub Two : ℕ → ℕ → List ℕ → Type 0
Two a b = Both (Number a) (Number b)

abbrev pub Three : ℕ → ℕ → ℕ → List ℕ → Type 0
Three a b c = Both (Number a) (Two b c)

-- The name of each command, and the numbers after it.
abbrev pub Says : List ℕ → List ℕ → Command → Type 0
Says name rest (Campaign server) = (name ≡ codes "campaign") × Number server rest
Says name rest (Deliver position keep) = (name ≡ codes "deliver") × Two position keep rest
Says name rest (Lose position) = (name ≡ codes "lose") × Number position rest
Says name rest (Propose server edit) = (name ≡ codes "propose") × Both (Number server) (EditIn edit) rest
Says name rest (Firm server) = (name ≡ codes "firm") × Number server rest
Says name rest (Send server receiver) = (name ≡ codes "send") × Two server receiver rest
Says name rest (Apply server) = (name ≡ codes "apply") × Number server rest
Says name rest (Outage server wish) = (name ≡ codes "outage") × Two server wish rest
Says name rest (Restart server) = (name ≡ codes "restart") × Number server rest
Says name rest (Standing server number term) = (name ≡ codes "standing") × Three server number term rest
Says name rest (Look server row size) = (name ≡ codes "look") × Three server row size rest

-- The line is the name, one space and the numbers of the command.
abbrev pub Reads : List ℕ → Command → Type 0
Reads bs c = (name : List ℕ) × (rest : List ℕ) × (bs ≡ name ++ (32 ∷ rest)) × Says name rest c
