-- Facts that were found say what those of the meaning do.
use Rattle.std.proofs.Common.{◌≡◌, ℕ, ◌<◌, ◌≤◌, List, [], length, sym, ap, subst, ◌∙◌, arith, Option, Some, ⊎_elim}
use Rattle.std.specs.Prelude.{map, slice_get, unwrap_or}
use Rattle.std.proofs.lemmas.Bool.{cases_lt}
use Rattle.std.proofs.lemmas.List.{length-map}
use Rattle.std.proofs.lemmas.List.Elements.{recursion_from_All}
use Rattle.std.proofs.lemmas.Option.{slice_get_past}
use Rattle.run_framed_facts.specs.FramedFacts.{AreFramedFacts, HaveFramedFacts}
use Rattle.run_framed.specs.Framed.{framed_facts}
use Rattle.ir_model.specs.declared.module.Function.{Function}
use Rattle.ir_paths.proofs.Right.{facts_of_right}
use Rattle.ir_paths.specs.Facts.{IsWindow, facts_of}
use Rattle.ir_paths.specs.Slots.{has_name}
use Rattle.ir_paths.specs.declared.point.Facts.{Facts}
use Rattle.run_source_facts.proofs.SameFacts.{SameFacts, get_map, no-facts, some-at, windows-same}
use Rattle.run_source_tables.specs.Given.{facts_at}

own-same : (f : Function) (own : Facts) → AreFramedFacts f own → SameFacts own (framed_facts f)
own-same f own h =
    let right = facts_of_right f in
    record {
      windows = windows-same f own.windows (facts_of f).windows (h.saves ∙ sym right.saves) (recursion_from_All (IsWindow f) own.windows h.windows) (recursion_from_All (IsWindow f) (facts_of f).windows right.windows);
      ramp_slots = λ v. ap (λ (l : List ℕ). has_name l v) h.ramp_slots;
    }

pub table-same : (functions : List Function) (facts : List Facts) → HaveFramedFacts functions facts → (func : ℕ) → SameFacts (facts_at facts func) (facts_at (map framed_facts functions) func)
table-same functions facts h func = ⊎_elim within past (cases_lt func (length functions))
  where
    within : func < length functions → SameFacts (facts_at facts func) (facts_at (map framed_facts functions) func)
    within lt =
        let count = h.count in
        let f = some-at functions func lt in
        let own = some-at facts func (omega (arith, count, lt)) in
        let there : slice_get (map framed_facts functions) func ≡ Some (framed_facts f.0) = get_map framed_facts functions func f.0 f.1 in
        subst (λ (o : Option Facts). SameFacts (unwrap_or o (record { windows = []; ramp_slots = [] })) (facts_at (map framed_facts functions) func)) (sym own.1)
        (subst (λ (o : Option Facts). SameFacts own.0 (unwrap_or o (record { windows = []; ramp_slots = [] }))) (sym there)
        (own-same f.0 own.0 (h.each func f.0 own.0 f.1 own.1)))

    past : length functions ≤ func → SameFacts (facts_at facts func) (facts_at (map framed_facts functions) func)
    past le =
        let count = h.count in
        let len = length-map functions framed_facts in
        subst (λ (o : Option Facts). SameFacts (unwrap_or o (record { windows = []; ramp_slots = [] })) (facts_at (map framed_facts functions) func)) (sym (slice_get_past facts func (omega (arith, count, le))))
        (subst (λ (o : Option Facts). SameFacts (record { windows = []; ramp_slots = [] }) (unwrap_or o (record { windows = []; ramp_slots = [] }))) (sym (slice_get_past (map framed_facts functions) func (omega (arith, len, le))))
        no-facts)
