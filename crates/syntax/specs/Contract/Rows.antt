-- What a row of the matcher's table stands for. A row says what a syntax says, with the numbers of rows in place of the syntaxes inside it.
use Rattle.der.specs.Fit.{Fit}
use Rattle.std.specs.Prelude.{ℕ, zero, suc, ◌<◌, List, [], ◌∷◌, ◌≡◌, get_or, Result, Ok, Err}
use Rattle.syntax.specs.declared.row.Row.{Row}
use Rattle.syntax.specs.declared.row.Row.TheVariants.{Free, End, Many, Obeys, Field}
use Rattle.syntax.specs.declared.row.Kind.{Kind}
use Rattle.syntax.specs.declared.row.Kind.TheVariants.{Optional, Required, One, AnyOptional}
use Rattle.syntax.specs.declared.row.Rule.TheVariants as rule
use Rattle.syntax.specs.Grammar.{Rule, not_empty, size_to, empty, equals, integer_but, seq_number}
use Rattle.syntax.specs.Grammar.{Syntax, free, end, obeys, optional, one, any_optional, many, required}
use Rattle.syntax.specs.Contract.Table.{rows}

-- the rules. The octets o are those that the caller gives: the one rule whose octets are no constant of the table
unfoldable pub rule_of : rule.the_data → List ℕ → Rule
rule_of rule.NotEmpty o = not_empty
rule_of (rule.SizeTo n) o = size_to n
rule_of rule.Empty o = empty
rule_of (rule.Equals n) o = equals (n ∷ [])
rule_of rule.EqualsGiven o = equals o
rule_of (rule.IntegerBut n) o = integer_but n
rule_of rule.SeqNumber o = seq_number

-- a field, by its kind
unfoldable pub field_syntax : Kind → ℕ → Syntax → Syntax → Syntax
field_syntax Optional tag body next = optional tag body next
field_syntax Required tag body next = required tag body next
field_syntax One tag body next = one body next
field_syntax AnyOptional tag body next = any_optional next

-- a row, where g says what the rows stand for that it names
unfoldable pub row_syntax : List ℕ → (ℕ → Syntax) → Row → Syntax
row_syntax o g Free = free
row_syntax o g End = end
row_syntax o g (Many body) = many (g body)
row_syntax o g (Obeys rule body) = obeys (rule_of rule o) (g body)
row_syntax o g (Field kind tag body next) = field_syntax kind tag (g body) (g next)

abbrev pub row_at : ℕ → Row
row_at n = get_or rows n Free

-- row n, where f is no less than n: a row names only rows above it
unfoldable pub grown : ℕ → List ℕ → ℕ → Syntax
grown zero o n = free
grown (suc f) o zero = free
grown (suc f) o (suc n) = row_syntax o (grown f o) (row_at (suc n))

-- what row n stands for, where the caller gives the octets o
abbrev pub grammar_of : List ℕ → ℕ → Syntax
grammar_of o n = grown n o n

-- a row names only rows above row n
abbrev pub Names : ℕ → Row → Type 0
Names n (Many body) = body < n
Names n (Obeys rule body) = body < n
Names n (Field kind tag body next) = (body < n) × (next < n)
Names n Free = Unit {0}
Names n End = Unit {0}

-- row n as read: what it stands for, and that it names only rows above it
pub record RowIs (n : ℕ) (row : Row) : Type 0 where
  pub stands : (o : List ℕ) → grammar_of o n ≡ row_syntax o (grammar_of o) row
  pub names : Names n row

-- a field, and then the rest of the window from where it goes on
unfoldable pub then_after : Result ℕ ℕ → (ℕ → Fit) → Fit
then_after (Ok i) rest = rest i
then_after (Err o) rest = Err o

-- a field that is not there: of kind required or one it is a break, charged to an element; else the window goes on at its place
unfoldable pub left_out : Kind → ℕ → ℕ → Result ℕ ℕ
left_out Optional at charged = Ok at
left_out Required at charged = Err charged
left_out One at charged = Err charged
left_out AnyOptional at charged = Ok at
