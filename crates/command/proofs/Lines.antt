-- Which lines are commands.
use Rattle.std.proofs.Common.{◌≡◌, ℕ, List, ◌∷◌, ◌++◌, ℤ, Some, None, Option, IsUtf8, IsAscii, sym, ap, ◌∙◌, subst}
use Rattle.std.proofs.lemmas.Str.{IsUtf8-from_ascii}
use Rattle.sheet.specs.declared.types.Edit.{Edit}
use Rattle.command.specs.declared.types.Command.{Command}
use Rattle.command.specs.declared.types.Command.TheVariants.{Campaign, Deliver, Lose, Propose, Firm, Send, Apply, Outage, Restart, Standing, Look}
use Rattle.text.specs.Words.{Finds, Visible, NoSpace, Number, Kind, Word, EditIn}
use Rattle.text.specs.Numerals.{number_visible, word_visible}
use Rattle.text.proofs.Splits.{visible_no_space, same_cut}
use Rattle.command.specs.Grammar.{Two, Three, Says, Reads}
use Rattle.command.proofs.Characters.{all_visible, visible_from, joined_ascii, both_ascii, written_ascii}

number_ascii : (n : ℕ) (bs : List ℕ) → Number n bs → IsAscii bs
number_ascii n bs w = written_ascii bs (number_visible n bs w)

word_ascii : (z : ℤ) (bs : List ℕ) → Word z bs → IsAscii bs
word_ascii z bs w = written_ascii bs (word_visible z bs w)

two_ascii : (a b : ℕ) (bs : List ℕ) → Two a b bs → IsAscii bs
two_ascii a b = both_ascii (Number a) (Number b) (number_ascii a) (number_ascii b)

three_ascii : (a b c : ℕ) (bs : List ℕ) → Three a b c bs → IsAscii bs
three_ascii a b c = both_ascii (Number a) (Two b c) (number_ascii a) (two_ascii b c)

edit_ascii : (e : Edit) (bs : List ℕ) → EditIn e bs → IsAscii bs
edit_ascii e = both_ascii (Kind e.kind) _ (λ m w. number_ascii e.kind m w.0) (both_ascii (Word e.row) _ (word_ascii e.row) (both_ascii (Word e.size) _ (word_ascii e.size) (both_ascii (Word e.a) (Word e.q) (word_ascii e.a) (word_ascii e.q))))

rest_ascii : (name rest : List ℕ) (x : Command) → Says name rest x → IsAscii rest
rest_ascii name rest (Campaign a) w = number_ascii a rest w.1
rest_ascii name rest (Deliver a b) w = two_ascii a b rest w.1
rest_ascii name rest (Lose a) w = number_ascii a rest w.1
rest_ascii name rest (Propose a e) w = both_ascii (Number a) (EditIn e) (number_ascii a) (edit_ascii e) rest w.1
rest_ascii name rest (Firm a) w = number_ascii a rest w.1
rest_ascii name rest (Send a b) w = two_ascii a b rest w.1
rest_ascii name rest (Apply a) w = number_ascii a rest w.1
rest_ascii name rest (Outage a b) w = two_ascii a b rest w.1
rest_ascii name rest (Restart a) w = number_ascii a rest w.1
rest_ascii name rest (Standing a b c) w = three_ascii a b c rest w.1
rest_ascii name rest (Look a b c) w = three_ascii a b c rest w.1

-- the name of a command has no space and is ASCII
pub name_visible : (name rest : List ℕ) (x : Command) → Says name rest x → Visible name
name_visible name rest (Campaign a) w = visible_from name (ap all_visible w.0)
name_visible name rest (Deliver a b) w = visible_from name (ap all_visible w.0)
name_visible name rest (Lose a) w = visible_from name (ap all_visible w.0)
name_visible name rest (Propose a e) w = visible_from name (ap all_visible w.0)
name_visible name rest (Firm a) w = visible_from name (ap all_visible w.0)
name_visible name rest (Send a b) w = visible_from name (ap all_visible w.0)
name_visible name rest (Apply a) w = visible_from name (ap all_visible w.0)
name_visible name rest (Outage a b) w = visible_from name (ap all_visible w.0)
name_visible name rest (Restart a) w = visible_from name (ap all_visible w.0)
name_visible name rest (Standing a b c) w = visible_from name (ap all_visible w.0)
name_visible name rest (Look a b c) w = visible_from name (ap all_visible w.0)

-- the bytes of a command are text
pub reads_utf8 : (bs : List ℕ) (x : Command) → Reads bs x → IsUtf8 bs
reads_utf8 bs x w = IsUtf8-from_ascii bs (joined_ascii bs w.0 w.1 w.2 (written_ascii w.0 (name_visible w.0 w.1 x w.3)) (rest_ascii w.0 w.1 x w.3))

-- where a line was cut is where its command has the space
pub says : (bs name rest : List ℕ) → bs ≡ name ++ (32 ∷ rest) → NoSpace name → (x : Command) → Reads bs x → Says name rest x
says bs name rest e n x w =
    let p = same_cut name rest w.0 w.1 n (visible_no_space w.0 (name_visible w.0 w.1 x w.3)) (sym e ∙ w.2) in
    subst (λ (m : List ℕ). Says m rest x) (sym p.0) (subst (λ (m : List ℕ). Says w.0 m x) (sym p.1) w.3)

-- what is said of the two parts is read of the whole
pub cut_reads : (bs name rest : List ℕ) → bs ≡ name ++ (32 ∷ rest) → NoSpace name → (r : Option Command) → Finds r (Says name rest) → Finds r (Reads bs)
cut_reads bs name rest e n (Some x) f = (name, rest, e, f)
cut_reads bs name rest e n None f = λ x w. f x (says bs name rest e n x w)
