-- What new names are in the parts of a coroutine, and in a function that is none.
use Rattle.std.proofs.Common.{◌≡◌, ℕ, ◌+◌, ◌<◌, ◌≤◌, ◌^◌, Bool, true, false, List, [], ◌∷◌, ◌++◌, length, refl, sym, ap, ◌∙◌, arith}
use Rattle.std.proofs.Math.Nat.{mod-eq_of_lt}
use Rattle.std.proofs.lemmas.Bool.{leb-true, lt-ltb}
use Rattle.std.specs.List.{list_all}
use Rattle.std.specs.Prelude.{None, Option, Some, map, nat_le, not, pos, unwrap_or, ◌&&◌, ◌||◌, ◌==◌, if◌then◌else◌}
use Rattle.pass_fetch_proof.specs.ir_base.declared.outcome.Place.{Place}
use Rattle.pass_split.specs.Parts.{case_of, cases_from, entry_term, is_entered, plain_shape}
use Rattle.pass_fetch_proof.proofs.ir_laws.facts.Members.{at_each}
use Rattle.pass_fetch_proof.proofs.ir_laws.facts.Truth.{itself, and_both}
use Rattle.pass_fetch_proof.proofs.early.renaming.Rules.{begin_by}
use Rattle.pass_fetch_proof.proofs.ir_laws.paths.renamed.Uses.{stands_in}
use Rattle.pass_fetch_proof.proofs.rule_laws.rules.local_rules.Names.{numbers}
use Rattle.pass_fetch_proof.proofs.early.local_rules.ValueKinds.{kind_made}
use Rattle.pass_fetch_proof.proofs.rule_laws.rules.local_rules.ValueKinds.{kind_none}
use Rattle.pass_fetch_proof.proofs.ir_laws.facts.local_rules.Woven.{other_number}
use Rattle.pass_fetch_proof.proofs.ir_laws.paths.source_rules.Locals.{Apart}
use Rattle.pass_fetch_proof.specs.rule_laws.rules.source_rules.Named.{HasTabledLocals}
use Rattle.pass_fetch_proof.specs.frame_layout.declared.layout.Layout.{Layout}
use Rattle.pass_fetch_proof.specs.ir_parts.Parts.{OfInstr, Part as FunctionPart}
use Rattle.pass_fetch_proof.specs.pass_intrinsics.Shapes.{first_name, given_name, index_name, index_width, shape_of, slot_name, suspends_of}
use Rattle.pass_fetch_proof.specs.pass_intrinsics.declared.shape.Part.{Part}
use Rattle.pass_fetch_proof.specs.pass_intrinsics.declared.shape.Shape.{Shape}
use Rattle.pass_fetch_proof.specs.pass_intrinsics.declared.shape.SuspendPoint.{SuspendPoint}
use Rattle.ir_model.specs.Calls.{first_result}
use Rattle.ir_model.specs.Ty.{Ty, int}
use Rattle.ir_model.specs.TypeView.{bits_of}
use Rattle.ir_model.specs.declared.instr.Instr.{Instr}
use Rattle.ir_model.specs.declared.ir_type.IntWidth.{IntWidth}
use Rattle.ir_model.specs.declared.module.Function.{Function}
use Rattle.ir_model.specs.declared.module.Module.{Module}
use Rattle.ir_model.specs.declared.operand.Intrinsic.{Intrinsic}
use Rattle.pass_fetch_proof.specs.ir_paths.declared.point.Point.{Point}
use Rattle.pass_fetch_proof.specs.rule_locals.Instrs.{on_instr}
use Rattle.pass_fetch_proof.specs.rule_locals.Intrinsics.{calls_inner}
use Rattle.pass_fetch_proof.specs.ir_locals.Tables.{or_first}
use Rattle.pass_exits_proof.proofs.split.rules.PartKinds.{AreNewKinds}
use Rattle.pass_fetch_proof.proofs.rule_laws.rules.replaced.Passed.{Passes, PassingBlock}
use Rattle.pass_fetch_proof.specs.rule_laws.frames.replaced.Kinds.{kinds_with, part_kind, plain_kind}
use Rattle.pass_fetch_proof.specs.rule_laws.frames.replaced.Parted.{IsSmall}
use Rattle.pass_fetch_proof.specs.run_laws.changed.Changed.{Each}
use Rattle.pass_fetch_proof.specs.rule_types.Signatures.{calls_otherwise}
use Rattle.pass_fetch_proof.specs.rule_values.Fits.{fits_kind, is_literal}
use Rattle.pass_fetch_proof.specs.rule_values.Kinds.{value_kind}
use Rattle.pass_fetch_proof.specs.rule_values.Switches.{any_twice, case_word, fits_case, has_word}
use Rattle.pass_fetch_proof.specs.rule_values.Values.{fits_ending}
use Rattle.pass_fetch_proof.specs.rule_values.declared.kinds.Kind.{Kind}
use Rattle.pass_fetch_proof.proofs.rule_laws.rules.local_rules.Followed.{begin_ptr as begin_makes}
use Rattle.pass_fetch_proof.proofs.rule_laws.rules.woven_rules.Once.{names_below as numbers_below}

-- a new name has no value in the function
pub new_none : (k : ℕ) (f : Function) → HasTabledLocals k f → (v : ℕ) → length f.names ≤ v → value_kind f v ≡ None
new_none k f tabled v high = kind_none f v (λ l. let low : v < length f.names = numbers_below k f tabled v l in absurd (omega (arith, low, high)))

pub begin_kind : (m : Module) (f : Function) (begin : ℕ) → Apart (numbers f) → first_result Intrinsic.CoroBegin f ≡ Some begin → Each (PassingBlock (calls_otherwise m)) f.blocks → value_kind f begin ≡ Some Kind.Ptr
begin_kind m f begin apart named all =
    let x = begin_by f.blocks begin named in
    let p : Point = record { block = x.0; at = x.1.0 } in
    let y = x.1.1 in
    let st = stands_in f p y.instr y.stands in
    let block : PassingBlock (calls_otherwise m) st.block = at_each (PassingBlock (calls_otherwise m)) f.blocks p.block st.block all st.got in
    let one : Passes (calls_otherwise m) (OfInstr y.instr) = at_each (λ (i : Instr). Passes (calls_otherwise m) (OfInstr i)) st.block.instrs p.at y.instr block.instrs st.stands in
    kind_made f apart p y.instr begin y.stands y.begins.result ∙ begin_makes m one.0 y.instr begin y.begins.is_call y.begins.result one.1

-- ---- a coroutine's parts

from_new : (o : Option Kind) (kind : Kind) → o ≡ None → or_first o (Some kind) ≡ Some kind
from_new None kind e = refl
from_new (Some a) kind e = absurd (cc)

from_old : (o : Option Kind) (kind a : Kind) → o ≡ Some a → or_first o (Some kind) ≡ Some a
from_old None kind a e = absurd (cc)
from_old (Some b) kind a e = e

abbrev pub nothing_more : Place → FunctionPart → Bool
nothing_more p x = false

module _ (m : Module) (k : ℕ) (f : Function) (layout : Layout) (begin : ℕ) (tabled : HasTabledLocals k f) (apart : Apart (numbers f)) (named : first_result Intrinsic.CoroBegin f ≡ Some begin) (calls : Each (PassingBlock (calls_otherwise m)) f.blocks) where
  abbrev shape : Shape
  shape = shape_of f layout

  abbrev now : ℕ → Option Kind
  now = kinds_with f (part_kind shape)

  begin_now : now shape.begin ≡ Some Kind.Ptr
  begin_now = ap (λ (o : Option ℕ). now (unwrap_or o 0)) named ∙ from_old (value_kind f begin) (part_kind shape begin) Kind.Ptr (begin_kind m f begin apart named calls)

  other_now : (v : ℕ) → length f.names ≤ v → (v ≡ index_name shape → ⊥) → now v ≡ Some Kind.Ptr
  other_now v high other =
      from_new (value_kind f v) (part_kind shape v) (new_none k f tabled v high)
      ∙ ap (λ (b : Bool). Some (if b then Kind.Int (bits_of shape.width) else Kind.Ptr)) (other_number v (index_name shape) other)

  pub part_kinds : (part : Part) → AreNewKinds f shape part (first_name shape) (part_kind shape) nothing_more
  part_kinds part =
      record {
        fresh = λ v low. other_now v (omega (arith, low)) (λ e. let same : v ≡ length f.names + 5 = e in absurd (omega (arith, low, same)));
        frame = λ p r must_tail ty x args e inner. begin_now;
        begin = λ e. begin_now;
        slot = λ e. other_now (slot_name shape) (omega arith) (λ e. let same : length f.names + 4 ≡ length f.names + 5 = e in absurd (omega (arith, same)));
        given = λ e. other_now (given_name shape) (omega arith) (λ e. let same : length f.names + 6 ≡ length f.names + 5 = e in absurd (omega (arith, same)));
        index = λ e.
            from_new (value_kind f (index_name shape)) (part_kind shape (index_name shape)) (new_none k f tabled (index_name shape) (omega arith))
            ∙ ap (λ (b : Bool). Some (if b then Kind.Int (bits_of shape.width) else Kind.Ptr)) (itself (index_name shape));
      }

-- ---- numbers of suspends fit the index

width_fits : (n j : ℕ) → n ≤ 65536 → j < n → j < 2 ^ bits_of (index_width n)
width_fits n j most low = on (nat_le n 256) refl
  where
    on : (b : Bool) → nat_le n 256 ≡ b → j < 2 ^ bits_of (if b then IntWidth.I8 else IntWidth.I16)
    on true e = let le : n ≤ 256 = leb-true n 256 e in let small : j < 256 = omega (arith, le, low) in small
    on false e = let small : j < 65536 = omega (arith, most, low) in small

pub index_below : (f : Function) (layout : Layout) → IsSmall (shape_of f layout) → (j : ℕ) → j < length (suspends_of f) → j < 2 ^ bits_of (shape_of f layout).width
index_below f layout small j low = width_fits (length (suspends_of f)) j small.suspends low

pub index_literal : (f : Function) (layout : Layout) → IsSmall (shape_of f layout) → (j : ℕ) → j < length (suspends_of f) → is_literal (bits_of (shape_of f layout).width) (pos j) ≡ true
index_literal f layout small j low = lt-ltb j (2 ^ bits_of (shape_of f layout).width) (index_below f layout small j low)

-- ---- the switch of a part that goes on

module _ (s : Shape) (flags : List Bool) (part : Part) (kinds : ℕ → Option Kind) (below : (j : ℕ) → j < length s.suspends → j < 2 ^ bits_of s.width) where
  abbrev w : ℕ
  w = bits_of s.width

  literal : (j : ℕ) → j < length s.suspends → is_literal w (pos j) ≡ true
  literal j low = lt-ltb j (2 ^ w) (below j low)

  cases_fit : (j : ℕ) (ps : List SuspendPoint) → j + length ps ≤ length s.suspends → list_all (fits_case kinds (int w)) (cases_from s flags part j ps) ≡ true
  cases_fit j [] e = refl
  cases_fit j (p ∷ ps) e = on (is_entered flags part p) (cases_fit (j + 1) ps (omega (arith, e)))
    where
      on : (b : Bool) → list_all (fits_case kinds (int w)) (cases_from s flags part (j + 1) ps) ≡ true → list_all (fits_case kinds (int w)) ((if b then case_of s j ∷ [] else []) ++ cases_from s flags part (j + 1) ps) ≡ true
      on true h =
          and_both ((w == w) && is_literal w (pos j)) (list_all (fits_case kinds (int w)) (cases_from s flags part (j + 1) ps))
          (and_both (w == w) (is_literal w (pos j)) (itself w) (literal j (omega (arith, e)))) h
      on false h = h

  abbrev AreLess : ℕ → List ℕ → Type 0
  AreLess j = Each (λ (b : ℕ). b < j)

  less_more : (j : ℕ) (before : List ℕ) → AreLess j before → AreLess (j + 1) before
  less_more j [] h = tt
  less_more j (b ∷ before) h = ((let low : b < j = h.0 in omega (arith, low)), less_more j before h.1)

  none_has : (j : ℕ) (before : List ℕ) → AreLess j before → has_word before j ≡ false
  none_has j [] h = refl
  none_has j (b ∷ before) h = λ i. other_number b j (λ e. let low : b < j = h.0 in let same : b ≡ j = e in absurd (omega (arith, low, same))) i || none_has j before h.1 i

  word_is : (j : ℕ) → j < length s.suspends → case_word w (case_of s j) ≡ j
  word_is j low = mod-eq_of_lt (below j low)

  never_twice : (before : List ℕ) (j : ℕ) (ps : List SuspendPoint) → AreLess j before → j + length ps ≤ length s.suspends → any_twice before (map (case_word w) (cases_from s flags part j ps)) ≡ false
  never_twice before j [] h e = refl
  never_twice before j (p ∷ ps) h e = on (is_entered flags part p) (λ bs k. never_twice bs (j + 1) ps k (omega (arith, e)))
    where
      on : (b : Bool) → ((bs : List ℕ) → AreLess (j + 1) bs → any_twice bs (map (case_word w) (cases_from s flags part (j + 1) ps)) ≡ false) → any_twice before (map (case_word w) ((if b then case_of s j ∷ [] else []) ++ cases_from s flags part (j + 1) ps)) ≡ false
      on true more =
          let is : case_word w (case_of s j) ≡ j = word_is j (omega (arith, e)) in
          ap (λ (x : ℕ). has_word before x || any_twice (x ∷ before) (map (case_word w) (cases_from s flags part (j + 1) ps))) is
          ∙ (λ i. none_has j before h i || more (j ∷ before) ((omega arith), less_more j before h) i)
      on false more = more before (less_more j before h)

  pub switch_fits : (ty : Option Ty) → kinds (index_name s) ≡ Some (Kind.Int w) → fits_ending kinds ty (entry_term s flags part) ≡ true
  switch_fits ty e =
      and_both (fits_kind (kinds (index_name s)) (int w)) (list_all (fits_case kinds (int w)) (cases_from s flags part 0 s.suspends) && not (any_twice [] (map (case_word w) (cases_from s flags part 0 s.suspends))))
      (ap (λ (o : Option Kind). fits_kind o (int w)) e ∙ itself w)
      (and_both (list_all (fits_case kinds (int w)) (cases_from s flags part 0 s.suspends)) (not (any_twice [] (map (case_word w) (cases_from s flags part 0 s.suspends)))) (cases_fit 0 s.suspends (omega arith)) (ap not (never_twice [] 0 s.suspends tt (omega arith))))

-- ---- a function that is no coroutine

pub plain_kinds : (k : ℕ) (f : Function) → HasTabledLocals k f → AreNewKinds f (plain_shape f) Part.Ramp (length f.names) plain_kind (on_instr (calls_inner false))
plain_kinds k f tabled =
    record {
      fresh = λ v low. from_new (value_kind f v) Kind.Ptr (new_none k f tabled v low);
      frame = λ p r must_tail ty x args e inner. let t : true ≡ false = sym inner ∙ e in absurd (cc);
      begin = λ e. absurd (cc);
      slot = λ e. absurd (cc);
      given = λ e. absurd (cc);
      index = λ e. absurd (cc);
    }

pub plain_small : (f : Function) → IsSmall (plain_shape f)
plain_small f = record { size = omega arith; align = omega arith; index = omega arith; suspends = omega arith }
