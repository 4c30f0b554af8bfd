-- Phrases of the grammar leave behind them nothing but symbols that stood there: what holds of each before holds of each that is left.
use Rattle.std.proofs.Common.{inl, inr, List, [], ◌∷◌, ◌++◌, subst}
use Rattle.std.specs.Prelude.{Bool, true, false}
use Rattle.ir_laws.specs.ir_base.declared.name.Name.{Name}
use Rattle.text_grammar.specs.Attributes.{Attr, Balanced, IsAttr, any, any_integer, attributes, curly_text, empty, in_group, metadata, nested, other, pairs, plain_attr, presplit, round_text}
use Rattle.text_grammar.specs.Phrases.{Locals, Naming, Phrase, ◌⨾◌, ◌∥◌, behind_comma, comma, commas, each, flag, listed, mark, never, nothing, perhaps, plain, some, these, word}
use Rattle.text_symbols.specs.declared.sym.Mark.{Mark}
use Rattle.text_symbols.specs.declared.sym.Sym.{Sym}
use Rattle.text_symbols.specs.declared.word.Word.{Word}
use Rattle.text_canonical.specs.order.Shape.{Each}
use Rattle.text_symbols.specs.declared.sym.Mark.TheVariants as marks
use Rattle.text_symbols.specs.declared.sym.Sym.TheVariants as syms
use Rattle.text_symbols.specs.declared.word.Word.TheVariants as words

module _ (G : Sym → Type 0) where
  -- the phrase keeps what holds of each symbol
  pub record Keeps (P : Phrase) : Type 0 where
    pub at : (ts rest : List Sym) → P ts rest → Each G ts → Each G rest

  pub behind : (ws rest : List Sym) → Each G (ws ++ rest) → Each G rest
  behind [] rest h = h
  behind (w ∷ ws) rest h = behind ws rest h.1

  pub kept_these : (ws : List Sym) → Keeps (these ws)
  kept_these ws = record { at = λ ts rest h g. behind ws rest (subst (Each G) h g) }

  pub kept_word : (w : Word) → Keeps (word w)
  kept_word w = kept_these (syms.Word w ∷ [])

  pub kept_mark : (m : Mark) → Keeps (mark m)
  kept_mark m = kept_these (syms.Mark m ∷ [])

  pub kept_nothing : Keeps nothing
  kept_nothing = record { at = λ ts rest h g. subst (Each G) h g }

  pub kept_never : Keeps never
  kept_never = record { at = λ ts rest h g. absurd h }

  pub kept_seq : {P Q : Phrase} → Keeps P → Keeps Q → Keeps (P ⨾ Q)
  kept_seq a b = record { at = λ ts rest h g. b.at h.0 rest h.2 (a.at ts h.0 h.1 g) }

  pub kept_or : {P Q : Phrase} → Keeps P → Keeps Q → Keeps (P ∥ Q)
  kept_or {P} {Q} a b = record { at = on }
    where
      on : (ts rest : List Sym) → (P ∥ Q) ts rest → Each G ts → Each G rest
      on ts rest (inl h) g = a.at ts rest h g
      on ts rest (inr h) g = b.at ts rest h g

  pub kept_perhaps : {P : Phrase} → Keeps P → Keeps (perhaps P)
  kept_perhaps a = kept_or a kept_nothing

  pub kept_flag : (w : Word) (b : Bool) → Keeps (flag w b)
  kept_flag w true = kept_word w
  kept_flag w false = kept_nothing

  pub kept_each : {A : Type 0} {P : A → Phrase} → ((x : A) → Keeps (P x)) → (xs : List A) → Keeps (each P xs)
  kept_each h [] = kept_nothing
  kept_each h (x ∷ xs) = kept_seq (h x) (kept_each h xs)

  pub kept_commas : {A : Type 0} {P : A → Phrase} → ((x : A) → Keeps (P x)) → (xs : List A) → Keeps (commas P xs)
  kept_commas h [] = kept_nothing
  kept_commas h (x ∷ xs) = kept_seq (h x) (kept_each (λ y. kept_seq (kept_mark marks.Comma) (h y)) xs)

  pub kept_any : {P : Phrase} → Keeps P → Keeps (any P)
  kept_any {P} a = record { at = λ ts rest h g. (kept_each {P = λ (u : Unit {0}). P} (λ u. a) h.0).at ts rest h.1 g }

  -- ---- attributes

  kept_balanced : (ts rest : List Sym) → Balanced ts rest → Each G ts → Each G rest
  kept_balanced _ _ empty g = g
  kept_balanced _ rest (other {t} {ts} plain_one b) g = kept_balanced ts rest b g.1
  kept_balanced _ rest (nested {o} {c} {ts} {behind = left} pair inner after) g = kept_balanced left rest after (kept_balanced ts (c ∷ left) inner g.1).1

  balanced : Keeps Balanced
  balanced = record { at = kept_balanced }

  pub kept_round : Keeps round_text
  kept_round = kept_seq (kept_mark marks.OpenRound) (kept_seq balanced (kept_mark marks.CloseRound))

  pub kept_curly : Keeps curly_text
  kept_curly = kept_seq (kept_mark marks.OpenCurly) (kept_seq balanced (kept_mark marks.CloseCurly))

  kept_integer : Keeps any_integer
  kept_integer = record { at = λ ts rest h g. (kept_or (kept_these (syms.Int h.0 ∷ [])) (kept_these (syms.Negative h.0 ∷ []))).at ts rest h.1 g }

  pub kept_attr : (a : Attr) → Keeps (IsAttr a)
  kept_attr presplit = kept_word words.Presplitcoroutine
  kept_attr (in_group g) = kept_these (syms.Group g ∷ [])
  kept_attr plain_attr =
      kept_or (kept_seq (kept_word words.Attr) (kept_perhaps kept_round))
      (kept_or (kept_seq (kept_word words.Comdat) (kept_perhaps kept_round))
      (kept_or (kept_seq (kept_word words.Align) (kept_seq (kept_perhaps (kept_mark marks.Equals)) kept_integer))
      (kept_seq (kept_these (syms.Str ∷ [])) (kept_perhaps (kept_these (syms.Mark marks.Equals ∷ syms.Str ∷ []))))))

  pub kept_attributes : Keeps attributes
  kept_attributes = record { at = λ ts rest h g. (kept_each {P = IsAttr} kept_attr h.0).at ts rest h.1 g }

  pub kept_metadata : Keeps metadata
  kept_metadata = kept_any (kept_these (syms.Mark marks.Comma ∷ syms.Meta ∷ syms.Meta ∷ []))

  pub kept_pairs : Keeps pairs
  kept_pairs = kept_any (kept_these (syms.Meta ∷ syms.Meta ∷ []))

  -- ---- inside a function, where something holds of the names so far, too

  module _ (H : Name → Type 0) where
    -- what holds of each name and of each symbol
    abbrev pub Holds : Locals → Type 0
    Holds s = Each H s.0 × Each G s.1

    pub record KeepsIn (P : Naming) : Type 0 where
      pub at : (s end : Locals) → P s end → Holds s → Holds end

    pub in_plain : {P : Phrase} → Keeps P → KeepsIn (plain P)
    in_plain a = record { at = λ s end h g. (subst (Each H) h.0 g.0, a.at s.1 end.1 h.1 g.1) }

    pub in_nothing : KeepsIn nothing
    in_nothing = record { at = λ s end h g. subst Holds h g }

    pub in_never : KeepsIn never
    in_never = record { at = λ s end h g. absurd h }

    pub in_seq : {P Q : Naming} → KeepsIn P → KeepsIn Q → KeepsIn (P ⨾ Q)
    in_seq a b = record { at = λ s end h g. b.at h.0 end h.2 (a.at s h.0 h.1 g) }

    pub in_or : {P Q : Naming} → KeepsIn P → KeepsIn Q → KeepsIn (P ∥ Q)
    in_or {P} {Q} a b = record { at = on }
      where
        on : (s end : Locals) → (P ∥ Q) s end → Holds s → Holds end
        on s end (inl h) g = a.at s end h g
        on s end (inr h) g = b.at s end h g

    pub in_each : {A : Type 0} {P : A → Naming} → ((x : A) → KeepsIn (P x)) → (xs : List A) → KeepsIn (each P xs)
    in_each h [] = in_nothing
    in_each h (x ∷ xs) = in_seq (h x) (in_each h xs)

    pub in_some : {A : Type 0} {P : A → Naming} → ((x : A) → KeepsIn (P x)) → (xs : List A) → KeepsIn (some P xs)
    in_some h [] = in_never
    in_some h (x ∷ xs) = in_seq (h x) (in_each h xs)

    pub in_comma : KeepsIn comma
    in_comma = in_plain (kept_mark marks.Comma)

    pub in_behind_comma : {A : Type 0} {P : A → Naming} → ((x : A) → KeepsIn (P x)) → (x : A) → KeepsIn (behind_comma P x)
    in_behind_comma h x = in_seq in_comma (h x)

    pub in_listed : {A : Type 0} {P : A → Naming} → ((x : A) → KeepsIn (P x)) → (xs : List A) → KeepsIn (listed P xs)
    in_listed h [] = in_never
    in_listed {A} {P} h (x ∷ xs) = in_seq (h x) (in_each {P = behind_comma P} (in_behind_comma {P = P} h) xs)
