-- A line has at most one reading.
use Rattle.std.proofs.Common.{◌≡◌, ℕ, cond, eqb, List, get_or, Some, None, Option, MatchOption, sym, refl, ap, ◌∙◌, subst}
use Rattle.std.specs.Option.{IsSomeAnd}
use Rattle.sheet.specs.declared.types.Edit.{Edit}
use Rattle.command.specs.declared.types.Command.{Command}
use Rattle.command.specs.declared.types.Command.TheVariants.{Campaign, Deliver, Lose, Propose, Firm, Send, Apply, Outage, Restart, Standing, Look}
use Rattle.text.specs.Words.{Finds, Both, Number, Kind, Word, FromRow, EditIn}
use Rattle.text.specs.Numerals.{number_visible, number_sole, kind_visible, kind_sole, word_visible, word_sole}
use Rattle.text.proofs.Splits.{visible_no_space, together}
use Rattle.text.proofs.EditWords.{FromSize, FromA}
use Rattle.command.specs.Grammar.{FindsOnly, Two, Three, Says, Reads}
use Rattle.command.proofs.Lines.{name_visible, says}

same_two : (a b c d : ℕ) (bs : List ℕ) → Two a b bs → Two c d bs → (a ≡ c) × (b ≡ d)
same_two a b c d bs w v =
    let t = together Number number_visible a c (Number b) (Number d) bs w v in
    (number_sole a c t.0 t.2 t.3, number_sole b d t.1 t.4 t.5)

same_three : (a b c x y z : ℕ) (bs : List ℕ) → Three a b c bs → Three x y z bs → (a ≡ x) × (b ≡ y) × (c ≡ z)
same_three a b c x y z bs w v =
    let t = together Number number_visible a x (Two b c) (Two y z) bs w v in
    let s = same_two b c y z t.1 t.4 t.5 in
    (number_sole a x t.0 t.2 t.3, s.0, s.1)

same_edit : (e f : Edit) (bs : List ℕ) → EditIn e bs → EditIn f bs → e ≡ f
same_edit e f bs w v =
    let k = together Kind kind_visible e.kind f.kind (FromRow e) (FromRow f) bs w v in
    let r = together Word word_visible e.row f.row (FromSize e) (FromSize f) k.1 k.4 k.5 in
    let s = together Word word_visible e.size f.size (FromA e) (FromA f) r.1 r.4 r.5 in
    let a = together Word word_visible e.a f.a (Word e.q) (Word f.q) s.1 s.4 s.5 in
    let p0 = kind_sole e.kind f.kind k.0 k.2 k.3 in
    let p1 = word_sole e.row f.row r.0 r.2 r.3 in
    let p2 = word_sole e.size f.size s.0 s.2 s.3 in
    let p3 = word_sole e.a f.a a.0 a.2 a.3 in
    let p4 = word_sole e.q f.q a.1 a.4 a.5 in
    λ i. record { kind = p0 i; row = p1 i; size = p2 i; a = p3 i; q = p4 i }

-- the names, told apart by their first and third bytes
pub data Name : Type 0 where
  campaign : Name
  deliver : Name
  lose : Name
  propose : Name
  firm : Name
  send : Name
  apply : Name
  outage : Name
  restart : Name
  standing : Name
  look : Name

name_of : Command → Name
name_of (Campaign a) = campaign
name_of (Deliver a b) = deliver
name_of (Lose a) = lose
name_of (Propose a e) = propose
name_of (Firm a) = firm
name_of (Send a b) = send
name_of (Apply a) = apply
name_of (Outage a b) = outage
name_of (Restart a) = restart
name_of (Standing a b c) = standing
name_of (Look a b c) = look

abbrev pub initial : ℕ → List ℕ → Name → Name → Name
initial c bs here there = cond (eqb (get_or bs 0 0) c) here there

abbrev pub named : List ℕ → Name
named bs = initial 99 bs campaign (initial 100 bs deliver (initial 108 bs (cond (eqb (get_or bs 2 0) 115) lose look) (initial 112 bs propose (initial 102 bs firm (initial 115 bs (cond (eqb (get_or bs 1 0) 101) send standing) (initial 97 bs apply (initial 111 bs outage restart)))))))

name_is : (name rest : List ℕ) (x : Command) → Says name rest x → named name ≡ name_of x
unfolding name_of
name_is name rest (Campaign a) w = ap named w.0
name_is name rest (Deliver a b) w = ap named w.0
name_is name rest (Lose a) w = ap named w.0
name_is name rest (Propose a e) w = ap named w.0
name_is name rest (Firm a) w = ap named w.0
name_is name rest (Send a b) w = ap named w.0
name_is name rest (Apply a) w = ap named w.0
name_is name rest (Outage a b) w = ap named w.0
name_is name rest (Restart a) w = ap named w.0
name_is name rest (Standing a b c) w = ap named w.0
name_is name rest (Look a b c) w = ap named w.0

-- what follows a name, as a command of that name
abbrev pub Follows : Name → List ℕ → Command → Type 0
Follows campaign rest x = (a : ℕ) × (x ≡ Campaign a) × Number a rest
Follows deliver rest x = (a : ℕ) × (b : ℕ) × (x ≡ Deliver a b) × Two a b rest
Follows lose rest x = (a : ℕ) × (x ≡ Lose a) × Number a rest
Follows propose rest x = (a : ℕ) × (e : Edit) × (x ≡ Propose a e) × Both (Number a) (EditIn e) rest
Follows firm rest x = (a : ℕ) × (x ≡ Firm a) × Number a rest
Follows send rest x = (a : ℕ) × (b : ℕ) × (x ≡ Send a b) × Two a b rest
Follows apply rest x = (a : ℕ) × (x ≡ Apply a) × Number a rest
Follows outage rest x = (a : ℕ) × (b : ℕ) × (x ≡ Outage a b) × Two a b rest
Follows restart rest x = (a : ℕ) × (x ≡ Restart a) × Number a rest
Follows standing rest x = (a : ℕ) × (b : ℕ) × (c : ℕ) × (x ≡ Standing a b c) × Three a b c rest
Follows look rest x = (a : ℕ) × (b : ℕ) × (c : ℕ) × (x ≡ Look a b c) × Three a b c rest

follows : (name rest : List ℕ) (x : Command) → Says name rest x → Follows (name_of x) rest x
unfolding name_of
follows name rest (Campaign a) w = (a, refl, w.1)
follows name rest (Deliver a b) w = (a, b, refl, w.1)
follows name rest (Lose a) w = (a, refl, w.1)
follows name rest (Propose a e) w = (a, e, refl, w.1)
follows name rest (Firm a) w = (a, refl, w.1)
follows name rest (Send a b) w = (a, b, refl, w.1)
follows name rest (Apply a) w = (a, refl, w.1)
follows name rest (Outage a b) w = (a, b, refl, w.1)
follows name rest (Restart a) w = (a, refl, w.1)
follows name rest (Standing a b c) w = (a, b, c, refl, w.1)
follows name rest (Look a b c) w = (a, b, c, refl, w.1)

one_same : (f : ℕ → Command) (rest : List ℕ) (x y : Command) → (a : ℕ) × (x ≡ f a) × Number a rest → (a : ℕ) × (y ≡ f a) × Number a rest → x ≡ y
one_same f rest x y p q = p.1 ∙ ap f (number_sole p.0 q.0 rest p.2 q.2) ∙ sym q.1

two_same : (f : ℕ → ℕ → Command) (rest : List ℕ) (x y : Command) → (a : ℕ) × (b : ℕ) × (x ≡ f a b) × Two a b rest → (a : ℕ) × (b : ℕ) × (y ≡ f a b) × Two a b rest → x ≡ y
two_same f rest x y p q = let s = same_two p.0 p.1 q.0 q.1 rest p.3 q.3 in p.2 ∙ (λ i. f (s.0 i) (s.1 i)) ∙ sym q.2

three_same : (f : ℕ → ℕ → ℕ → Command) (rest : List ℕ) (x y : Command) → (a : ℕ) × (b : ℕ) × (c : ℕ) × (x ≡ f a b c) × Three a b c rest → (a : ℕ) × (b : ℕ) × (c : ℕ) × (y ≡ f a b c) × Three a b c rest → x ≡ y
three_same f rest x y p q = let s = same_three p.0 p.1 p.2 q.0 q.1 q.2 rest p.4 q.4 in p.3 ∙ (λ i. f (s.0 i) (s.1 i) (s.2 i)) ∙ sym q.3

same_command : (n : Name) (rest : List ℕ) (x y : Command) → Follows n rest x → Follows n rest y → x ≡ y
same_command campaign rest x y p q = one_same (λ a. Campaign a) rest x y p q
same_command deliver rest x y p q = two_same (λ a b. Deliver a b) rest x y p q
same_command lose rest x y p q = one_same (λ a. Lose a) rest x y p q
same_command propose rest x y p q =
    let t = together Number number_visible p.0 q.0 (EditIn p.1) (EditIn q.1) rest p.3 q.3 in
    let s = number_sole p.0 q.0 t.0 t.2 t.3 in
    let e = same_edit p.1 q.1 t.1 t.4 t.5 in
    p.2 ∙ (λ i. Propose (s i) (e i)) ∙ sym q.2
same_command firm rest x y p q = one_same (λ a. Firm a) rest x y p q
same_command send rest x y p q = two_same (λ a b. Send a b) rest x y p q
same_command apply rest x y p q = one_same (λ a. Apply a) rest x y p q
same_command outage rest x y p q = two_same (λ a b. Outage a b) rest x y p q
same_command restart rest x y p q = one_same (λ a. Restart a) rest x y p q
same_command standing rest x y p q = three_same (λ a b c. Standing a b c) rest x y p q
same_command look rest x y p q = three_same (λ a b c. Look a b c) rest x y p q

-- what is said of a name is what follows it
pub found : (n : Name) (name rest : List ℕ) → named name ≡ n → (x : Command) → Says name rest x → Follows n rest x
found n name rest e x w = subst (λ (k : Name). Follows k rest x) (sym (name_is name rest x w) ∙ e) (follows name rest x w)

pub one_reading : (bs : List ℕ) (x y : Command) → Reads bs x → Reads bs y → x ≡ y
one_reading bs x y w v =
    let s = says bs w.0 w.1 w.2 (visible_no_space w.0 (name_visible w.0 w.1 x w.3)) y v in
    same_command (name_of x) w.1 x y (follows w.0 w.1 x w.3) (found (name_of x) w.0 w.1 (name_is w.0 w.1 x w.3) y s)

pub only : (bs : List ℕ) (r : Option Command) → Finds r (Reads bs) → FindsOnly r (Reads bs)
only bs None f = f
only bs (Some x) f = (f, λ y w. one_reading bs y x w f)

-- a command that is made of what was found
pub mapped : {Y : Type 0} (N : Y → Type 0) (S : Command → Type 0) (f : Y → Command) (L : Y → Command → Type 0) (q : Option Y) (r : Option Command)
    → Finds q N → MatchOption q (r ≡ None) (λ x. IsSomeAnd r (L x)) → ((x : Y) (c : Command) → L x c → c ≡ f x)
    → ((x : Y) → N x → S (f x)) → ((c : Command) → S c → (x : Y) × N x) → Finds r S
mapped N S f L None r n m l s b = subst (λ (o : Option Command). Finds o S) (sym m) (λ c w. let p = b c w in n p.0 p.1)
mapped N S f L (Some x) (Some c) n m l s b = subst S (sym (l x c m)) (s x n)
mapped N S f L (Some x) None n m l s b = absurd m

module _ (name rest : List ℕ) where
  pub mapped_two : (f : ℕ → ℕ → Command) (L : ℕ × ℕ → Command → Type 0) (q : Option (ℕ × ℕ)) (r : Option Command)
      → Finds q (λ x. Two x.0 x.1 rest) → MatchOption q (r ≡ None) (λ x. IsSomeAnd r (L x)) → ((x : ℕ × ℕ) (c : Command) → L x c → c ≡ f x.0 x.1)
      → ((a b : ℕ) → Two a b rest → Says name rest (f a b))
      → ((x : Command) → Says name rest x → (a : ℕ) × (b : ℕ) × (x ≡ f a b) × Two a b rest) → Finds r (Says name rest)
  mapped_two f L q r n m l s b = mapped (λ x. Two x.0 x.1 rest) (Says name rest) (λ x. f x.0 x.1) L q r n m l (λ x t. s x.0 x.1 t) (λ x w. let p = b x w in ((p.0, p.1), p.3))

  pub mapped_three : (f : ℕ → ℕ → ℕ → Command) (L : ℕ × ℕ × ℕ → Command → Type 0) (q : Option (ℕ × ℕ × ℕ)) (r : Option Command)
      → Finds q (λ x. Three x.0 x.1 x.2 rest) → MatchOption q (r ≡ None) (λ x. IsSomeAnd r (L x)) → ((x : ℕ × ℕ × ℕ) (c : Command) → L x c → c ≡ f x.0 x.1 x.2)
      → ((a b c : ℕ) → Three a b c rest → Says name rest (f a b c))
      → ((x : Command) → Says name rest x → (a : ℕ) × (b : ℕ) × (c : ℕ) × (x ≡ f a b c) × Three a b c rest) → Finds r (Says name rest)
  mapped_three f L q r n m l s b = mapped (λ x. Three x.0 x.1 x.2 rest) (Says name rest) (λ x. f x.0 x.1 x.2) L q r n m l (λ x t. s x.0 x.1 x.2 t) (λ x w. let p = b x w in ((p.0, p.1, p.2), p.4))
