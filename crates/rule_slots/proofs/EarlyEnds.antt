-- The blocks that end before begin.
use Rattle.std.proofs.Common.{◌≡◌, ℕ, suc, ◌<◌, ◌≤◌, Bool, true, false, List, [], ◌∷◌, length, Some, None, Option, refl, sym, ap, ◌∙◌, subst, inl, inr, arith}
use Rattle.std.proofs.lemmas.Bool.{cases_lt}
use Rattle.std.proofs.lemmas.Option.{slice_get_past}
use Rattle.std.specs.Prelude.{if◌then◌else◌, option_map, unwrap_or, ◌⊎◌, ◌==◌}
use Rattle.ir_model.specs.Names.{first_where}
use Rattle.ir_model.specs.declared.module.Block.{Block}
use Rattle.ir_model.specs.declared.module.Function.{Function}
use Rattle.ir_paths.proofs.Search.{eq_from}
use Rattle.ir_paths.specs.declared.point.Point.{Point}
use Rattle.flow_points.specs.Rows.{is_marked}
use Rattle.rule_slots.specs.Early.{AreEarlyEnds, HaveEnds, IsBeforeBegin, LabelsBelow, end_at, end_mark, end_of}
use Rattle.rule_windows.specs.Sets.{AreThose}

not-it : (b label count : ℕ) → b < count → count ≤ label → (t : Bool) → (b == label) ≡ t → t ≡ false
not-it b label count lt le true e = let same = eq_from b label e in absurd (omega (arith, same, lt, le))
not-it b label count lt le false e = refl

no-block : (bs : List Block) (count label : ℕ) → LabelsBelow bs count → count ≤ label → first_where (λ b. b.label == label) bs ≡ None
no-block [] count label below le = refl
no-block (b ∷ bs) count label below le =
    ap (λ (t : Bool). if t then Some 0 else option_map suc (first_where (λ c. c.label == label) bs)) (not-it b.label label count below.0 le (b.label == label) refl)
    ∙ ap (option_map suc) (no-block bs count label below.1 le)

pub ends_are : (f : Function) (before : List (List Bool)) (count past : ℕ) (blocks : List Block) (last : Point) (other : Bool) (marks : List Bool) → blocks ≡ f.blocks → LabelsBelow blocks count → AreThose (IsBeforeBegin f) before → past ≡ length blocks → last ≡ end_at f past → other ≡ is_marked before last → HaveEnds f before count marks → AreEarlyEnds f marks other
ends_are f before count past blocks last other marks eb below set ep el eo have = record { each = λ label. ((λ m. (set.each (end_of f label)).0 (sym (is label (cases_lt label count)) ∙ m)), (λ b. is label (cases_lt label count) ∙ (set.each (end_of f label)).1 b)) }
  where
    is : (label : ℕ) → (label < count) ⊎ (count ≤ label) → end_mark marks other label ≡ is_marked before (end_of f label)
    is label (inl lt) = ap (λ (o : Option Bool). unwrap_or o other) (have.each label lt)
    is label (inr le) =
        ap (λ (o : Option Bool). unwrap_or o other) (slice_get_past marks label (let len = have.is_long in omega (arith, len, le)))
        ∙ eo ∙ ap (is_marked before) (el ∙ ap (end_at f) (ep ∙ ap (λ (l : List Block). length l) eb ∙ sym (ap (λ (o : Option ℕ). unwrap_or o (length f.blocks)) (no-block f.blocks count label (subst (λ (l : List Block). LabelsBelow l count) eb below) le))))
