-- Names that begin with words.
use Rattle.std.specs.Prelude.{◌≡◌, ◌∷◌, ◌<◌, ◌^◌, ℕ, Bool, true, false, List, [], Some, codes, length, slice_get}
use Rattle.std.specs.List.{list_any}
use Rattle.ir_laws.specs.ir_base.declared.name.Name.{Name}
use Rattle.ir_laws.specs.ir_model.declared.module.Function.{Function}
use Rattle.ir_laws.specs.ir_model.declared.module.Module.{Module}
use Rattle.rule_names.specs.Reserved.{name_begins}
use Rattle.ir_laws.specs.facts.names_apart.Apart.{AreApart}

-- the name begins with one of these words
abbrev pub begins_with_one : List (List ℕ) → Name → Bool
begins_with_one words n = list_any (λ w. name_begins w n) words

-- where the name begins with `$c.`, it begins with one of these words
abbrev pub IsOfWords : List (List ℕ) → Name → Type 0
IsOfWords words n = name_begins (codes "$c.") n ≡ true → begins_with_one words n ≡ true

-- A table in which no name stands twice, and each that begins with `$c.` begins with one of these words.
pub record IsTableOf (allowed : List (List ℕ)) (names : List Name) : Type 0 where
  pub apart : AreApart names
  pub words : (i : ℕ) (n : Name) → slice_get names i ≡ Some n → IsOfWords allowed n

-- the numbers of so many names are written in full
abbrev pub AreFew : List Name → Type 0
AreFew names = length names < 2 ^ 64

-- each function of the module has so few, as whatever lies in memory has
abbrev pub AreNamesFew : Module → Type 0
AreNamesFew m = (k : ℕ) (f : Function) → slice_get m.functions k ≡ Some f → AreFew f.names

-- ---- the words with which the names begin that passes make

-- those of the first pass
abbrev pub early_words : List (List ℕ)
early_words = codes "$c.save." ∷ codes "$c.begin" ∷ []

-- those of blocks on edges
abbrev pub edge_words : List (List ℕ)
edge_words = codes "$c.edge." ∷ early_words

-- those of values that are kept in cells
abbrev pub cell_words : List (List ℕ)
cell_words =
    codes "$c.kept." ∷ codes "$c.use." ∷ codes "$c.link." ∷ codes "$c.distance." ∷ codes "$c.field." ∷ codes "$c.cell." ∷ edge_words

-- those of slots that are copied at begin
abbrev pub copy_words : List (List ℕ)
copy_words = codes "$c.there." ∷ codes "$c.early." ∷ codes "$c.where." ∷ cell_words

-- those of the framed form
abbrev pub framed_words : List (List ℕ)
framed_words = codes "$c.at." ∷ copy_words

-- ---- what is split

-- The names of a coroutine that is split are of the words of the framed form, and those of another function of none.
pub record IsSplitTable (f : Function) : Type 0 where
  pub coroutine : f.coroutine ≡ true → AreFew f.names → IsTableOf framed_words f.names
  pub other : f.coroutine ≡ false → IsTableOf [] f.names
