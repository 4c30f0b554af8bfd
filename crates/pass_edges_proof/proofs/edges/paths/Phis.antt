-- The operands of phis, where edges have blocks.
use Rattle.std.proofs.Common.{◌≡◌, ℕ, zero, suc, ◌⊎◌, inl, inr, Bool, true, false, List, [], ◌∷◌, refl, sym, ap, ◌∙◌}
use Rattle.std.specs.List.{cons_option, list_any}
use Rattle.std.specs.Prelude.{Some, None, Option, filter_map, slice_get, if◌then◌else◌, ◌||◌, ◌==◌}
use Rattle.pass_edges.specs.EdgeBlocks.{incoming_on, incoming_with, operand_from, split_phi}
use Rattle.pass_edges.specs.declared.edge.Edge.{Edge}
use Rattle.ir_model.specs.Names.{is_local}
use Rattle.ir_model.specs.declared.instr.Incoming.{Incoming}
use Rattle.ir_model.specs.declared.instr.Phi.{Phi}
use Rattle.ir_model.specs.declared.operand.Operand.{Operand}
use Rattle.pass_early_proof.proofs.ir_paths.Search.{either, eq_from, eq_itself, or_left, or_right}
use Rattle.pass_early_proof.specs.ir_paths.Slots.{occurs_in_phi}
use Rattle.pass_early_proof.specs.run_step.Step.{incoming_from}
use Rattle.pass_early_proof.proofs.ir_laws.facts.Truth.{same_truth}
use Rattle.pass_early_proof.specs.run_laws.changed.Changed.{Each}
use Rattle.pass_edges_proof.specs.edges.paths.Labels.{IsAmong}

-- ---- the operand that is taken

taken_none : (is : List Incoming) (label : ℕ) → operand_from is label ≡ None → incoming_from is label ≡ Operand.Poison
taken_none [] label e = refl
taken_none (i ∷ is) label e = on (i.from == label) e (taken_none is label)
  where
    on : (b : Bool) → (if b then Some i.value else operand_from is label) ≡ None → (operand_from is label ≡ None → incoming_from is label ≡ Operand.Poison) → (if b then i.value else incoming_from is label) ≡ Operand.Poison
    on true e again = absurd (cc)
    on false e again = again e

taken_some : (is : List Incoming) (label : ℕ) (x : Operand) → operand_from is label ≡ Some x → incoming_from is label ≡ x
taken_some [] label x e = absurd (cc)
taken_some (i ∷ is) label x e = on (i.from == label) e (taken_some is label x)
  where
    on : (b : Bool) → (if b then Some i.value else operand_from is label) ≡ Some x → (operand_from is label ≡ Some x → incoming_from is label ≡ x) → (if b then i.value else incoming_from is label) ≡ x
    on true e again = cc
    on false e again = again e

module _ (is : List Incoming) (from label : ℕ) where
  abbrev there : List Edge → List Incoming
  there es = filter_map (incoming_on is) es

  -- edges with the label come from the block
  abbrev AreOfOne : List Edge → Type 0
  AreOfOne es = Each (λ (e : Edge). e.label ≡ label → e.from ≡ from) es

  other_label : (e : Edge) (es : List Edge) (o : Option Operand) → (e.label == label) ≡ false → incoming_from (cons_option (incoming_with e.label o) (there es)) label ≡ incoming_from (there es) label
  other_label e es None h = refl
  other_label e es (Some x) h = ap (λ (b : Bool). if b then x else incoming_from (there es) label) h

  none_there : (es : List Edge) → AreOfOne es → operand_from is from ≡ None → incoming_from (there es) label ≡ Operand.Poison
  none_there [] h n = refl
  none_there (e ∷ es) h n = on (e.label == label) refl (none_there es h.1 n)
    where
      on : (b : Bool) → (e.label == label) ≡ b → incoming_from (there es) label ≡ Operand.Poison → incoming_from (there (e ∷ es)) label ≡ Operand.Poison
      on true s again =
          let same = h.0 (eq_from e.label label s) in
          ap (λ (o : Option Operand). incoming_from (cons_option (incoming_with e.label o) (there es)) label) (ap (operand_from is) same ∙ n) ∙ again
      on false s again = other_label e es (operand_from is e.from) s ∙ again

  some_there : (es : List Edge) (x : Operand) (d : Edge) → AreOfOne es → operand_from is from ≡ Some x → d.label ≡ label → (i : ℕ) → slice_get es i ≡ Some d → incoming_from (there es) label ≡ x
  some_there [] x d h n l i e = absurd (cc)
  some_there (e ∷ es) x d h n l i got = on (e.label == label) refl i got (some_there es x d h.1 n l)
    where
      on : (b : Bool) → (e.label == label) ≡ b → (i : ℕ) → slice_get (e ∷ es) i ≡ Some d → ((j : ℕ) → slice_get es j ≡ Some d → incoming_from (there es) label ≡ x) → incoming_from (there (e ∷ es)) label ≡ x
      on true s i got again =
          let same = h.0 (eq_from e.label label s) in
          ap (λ (o : Option Operand). incoming_from (cons_option (incoming_with e.label o) (there es)) label) (ap (operand_from is) same ∙ n)
          ∙ ap (λ (b : Bool). if b then x else incoming_from (there es) label) s
      on false s zero got again = absurd (differ (cc))
        where
          differ : e ≡ d → ⊥
          differ z = let no = ap (λ (k : ℕ). k == label) (ap (λ (y : Edge). y.label) z ∙ l) ∙ eq_itself label in cc
      on false s (suc j) got again = other_label e es (operand_from is e.from) s ∙ again j got

  -- a phi takes from the block on an edge what it took from the block from which the edge comes
  pub same_taken : (es : List Edge) (d : Edge) → AreOfOne es → d.label ≡ label → IsAmong es d → incoming_from (filter_map (incoming_on is) es) label ≡ incoming_from is from
  same_taken es d h l a = on (operand_from is from) refl
    where
      on : (o : Option Operand) → operand_from is from ≡ o → incoming_from (there es) label ≡ incoming_from is from
      on None e = none_there es h e ∙ sym (taken_none is from e)
      on (Some x) e = some_there es x d h e l a.at a.got ∙ sym (taken_some is from x e)

-- ---- the names that occur

module _ (v : ℕ) where
  abbrev occurs_in : List Incoming → Bool
  occurs_in is = list_any (λ (i : Incoming). is_local v i.value) is

  first_occurs : (is : List Incoming) (label : ℕ) (x : Operand) → operand_from is label ≡ Some x → is_local v x ≡ true → occurs_in is ≡ true
  first_occurs [] label x e h = absurd (cc)
  first_occurs (i ∷ is) label x e h = on (i.from == label) e (first_occurs is label x)
    where
      on : (b : Bool) → (if b then Some i.value else operand_from is label) ≡ Some x → (operand_from is label ≡ Some x → is_local v x ≡ true → occurs_in is ≡ true) → (is_local v i.value || occurs_in is) ≡ true
      on true e again = or_left (is_local v i.value) (occurs_in is) (ap (is_local v) (same (cc)) ∙ h)
        where
          same : i.value ≡ x → i.value ≡ x
          same s = s
      on false e again = or_right (is_local v i.value) (occurs_in is) (again e h)

  occurs_home : (is : List Incoming) (es : List Edge) → occurs_in (filter_map (incoming_on is) es) ≡ true → occurs_in is ≡ true
  occurs_home is [] h = absurd (cc)
  occurs_home is (e ∷ es) h = on (operand_from is e.from) refl h (occurs_home is es)
    where
      on : (o : Option Operand) → operand_from is e.from ≡ o → occurs_in (cons_option (incoming_with e.label o) (filter_map (incoming_on is) es)) ≡ true → (occurs_in (filter_map (incoming_on is) es) ≡ true → occurs_in is ≡ true) → occurs_in is ≡ true
      on None s h again = again h
      on (Some x) s h again = one (either (is_local v x) (occurs_in (filter_map (incoming_on is) es)) h)
        where
          one : (is_local v x ≡ true) ⊎ (occurs_in (filter_map (incoming_on is) es) ≡ true) → occurs_in is ≡ true
          one (inl k) = first_occurs is e.from x s k
          one (inr k) = again k

  -- the operand of an edge is one of the new ones
  occurs_on : (is : List Incoming) (es : List Edge) (d : Edge) (x : Operand) → operand_from is d.from ≡ Some x → is_local v x ≡ true → (i : ℕ) → slice_get es i ≡ Some d → occurs_in (filter_map (incoming_on is) es) ≡ true
  occurs_on is [] d x s h i got = absurd (cc)
  occurs_on is (e ∷ es) d x s h zero got = on (cc)
    where
      on : e ≡ d → occurs_in (cons_option (incoming_with e.label (operand_from is e.from)) (filter_map (incoming_on is) es)) ≡ true
      on z =
          ap (λ (o : Option Operand). occurs_in (cons_option (incoming_with e.label o) (filter_map (incoming_on is) es))) (ap (λ (y : Edge). operand_from is y.from) z ∙ s)
          ∙ or_left (is_local v x) (occurs_in (filter_map (incoming_on is) es)) h
  occurs_on is (e ∷ es) d x s h (suc i) got = on (operand_from is e.from) (occurs_on is es d x s h i got)
    where
      on : (o : Option Operand) → occurs_in (filter_map (incoming_on is) es) ≡ true → occurs_in (cons_option (incoming_with e.label o) (filter_map (incoming_on is) es)) ≡ true
      on None again = again
      on (Some y) again = or_right (is_local v y) (occurs_in (filter_map (incoming_on is) es)) again

  -- an operand that is the first one for an edge among these
  pub record IsKept (is : List Incoming) (es : List Edge) (i : Incoming) : Type 0 where
    pub edge : Edge
    pub is_from : edge.from ≡ i.from
    pub among : IsAmong es edge
    pub first : operand_from is i.from ≡ Some i.value

  occurs_forth : (is : List Incoming) (es : List Edge) (js : List Incoming) → Each (IsKept is es) js → occurs_in js ≡ true → occurs_in (filter_map (incoming_on is) es) ≡ true
  occurs_forth is es [] k h = absurd (cc)
  occurs_forth is es (j ∷ js) k h = on (either (is_local v j.value) (occurs_in js) h) (occurs_forth is es js k.1)
    where
      on : (is_local v j.value ≡ true) ⊎ (occurs_in js ≡ true) → (occurs_in js ≡ true → occurs_in (filter_map (incoming_on is) es) ≡ true) → occurs_in (filter_map (incoming_on is) es) ≡ true
      on (inl x) again = occurs_on is es k.0.edge j.value (ap (operand_from is) k.0.is_from ∙ k.0.first) x k.0.among.at k.0.among.got
      on (inr x) again = again x

  pub same_occurs : (es : List Edge) (p : Phi) → Each (IsKept p.incoming es) p.incoming → occurs_in_phi v (split_phi es p) ≡ occurs_in_phi v p
  same_occurs es p k = same_truth (occurs_in (filter_map (incoming_on p.incoming) es)) (occurs_in p.incoming) (occurs_home p.incoming es) (occurs_forth p.incoming es p.incoming k)
