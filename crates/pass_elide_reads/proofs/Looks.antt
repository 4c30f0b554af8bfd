-- What ends a block to which a path leads, and what phis take from it, in a coroutine that has a form.
use Rattle.std.proofs.Common.{◌≡◌, ◌≢◌, ◌⊎◌, ◌∙◌, ◌<◌, ◌≤◌, inl, inr, ⊎_elim, ℕ, suc, Bool, true, false, List, [], ◌∷◌, Option, None, Some, ap, arith, length, map, refl, subst, sym}
use Rattle.std.specs.Prelude.{slice_get, if◌then◌else◌, ◌&&◌, ◌||◌, ◌==◌}
use Rattle.pass_elide_edges.specs.Keeping.{HasEdge}
use Rattle.pass_elide_edges.proofs.pass_elide_proof.pass_proofs.ir_laws.facts.Lists.{get_within}
use Rattle.pass_elide_edges.proofs.pass_elide_proof.pass_proofs.ir_laws.facts.Truth.{equal_numbers}
use Rattle.pass_elide_edges.proofs.pass_elide_proof.pass_proofs.pass_kept_proof.Read.{read_used}
use Rattle.pass_elide_edges.proofs.pass_elide_proof.pass_proofs.rule_laws.frames.rows.EdgeUses.{used_on}
use Rattle.pass_elide_edges.proofs.pass_elide_proof.pass_proofs.rule_laws.rules.source_rules.Locals.{own_label}
use Rattle.pass_elide_edges.proofs.pass_elide_proof.ElidedFound.{fetched}
use Rattle.pass_elide_reads.proofs.Diamonds.{IsSide, Leads, leads_to, only_jump}
use Rattle.pass_elide_reads.proofs.ReadNames.{begin_reads, not_some}
use Rattle.pass_elide_reads.proofs.Regions.{past_allocator, past_beside, past_free, past_frees, past_passes}
use Rattle.pass_elide_reads.proofs.Sides.{unended_first, unended_side, untaken_first, untaken_side}
use Rattle.pass_elide_reads.proofs.Used.{HasEnd, has_end, no_end, no_phi}
use Rattle.pass_elide_reads.proofs.Ways.{either_true, none_passed, passed_ways, passes_straight}
use Rattle.pass_elide_reads.specs.Uses.{HandsBack, LooksAsked, LooksQuiet, LooksSo, LooksTested, TakesSo, ToDeallocator, ToTest, UsesAlone}
use Rattle.pass_elide_ready.proofs.FreedForm.{not_asked}
use Rattle.pass_elide_ready.proofs.Listed.{found, tested_is}
use Rattle.pass_elide_ready.proofs.Numbers.{GivesThere, gives_there, not_true}
use Rattle.pass_elide_ready.proofs.OneUse.{no_phi_use, one_place, used_there}
use Rattle.pass_elide_ready.specs.Form.{Asking, AsksSo, Freeing, FreesSo, HasForm, MeetsSo, frees_name, gives_in, made_of, passed_by, passed_of, shape_by, tested_of}
use Rattle.pass_elide_ready.specs.pass_elide_proof.Edges.{chosen_by, label_from, phis_at}
use Rattle.pass_elide_ready.specs.pass_elide_proof.Elision.{Shape}
use Rattle.pass_elide_ready.specs.pass_elide_proof.Places.{instrs_of}
use Rattle.pass_elide_ready.specs.pass_elide_proof.Shapes.{JumpsTo}
use Rattle.pass_elide_ready.specs.pass_elide_proof.pass_proofs.flow_blocks.Reach.{IsReached}
use Rattle.pass_elide_ready.specs.pass_elide_proof.pass_proofs.flow_solver.Paths.{IsListed}
use Rattle.pass_elide_ready.specs.pass_elide_proof.pass_proofs.frame_crossing.EdgeUses.{IsUsedOn}
use Rattle.pass_elide_ready.specs.pass_elide_proof.pass_proofs.frame_crossing.Paths.{used_by}
use Rattle.pass_elide_ready.specs.pass_elide_proof.pass_proofs.ir_model.Names.{position_of}
use Rattle.pass_elide_ready.specs.pass_elide_proof.pass_proofs.ir_model.declared.instr.Incoming.{Incoming}
use Rattle.pass_elide_ready.specs.pass_elide_proof.pass_proofs.ir_model.declared.instr.Instr.{Instr}
use Rattle.pass_elide_ready.specs.pass_elide_proof.pass_proofs.ir_model.declared.instr.Phi.{Phi}
use Rattle.pass_elide_ready.specs.pass_elide_proof.pass_proofs.ir_model.declared.instr.Terminator.{Terminator}
use Rattle.pass_elide_ready.specs.pass_elide_proof.pass_proofs.ir_model.declared.module.Block.{Block}
use Rattle.pass_elide_ready.specs.pass_elide_proof.pass_proofs.ir_model.declared.module.Function.{Function}
use Rattle.pass_elide_ready.specs.pass_elide_proof.pass_proofs.ir_model.declared.module.Module.{Module}
use Rattle.pass_elide_ready.specs.pass_elide_proof.pass_proofs.ir_model.declared.operand.Operand.{Operand}
use Rattle.pass_elide_ready.specs.pass_elide_proof.pass_proofs.ir_parts.Contents.{ending_operands}
use Rattle.pass_elide_ready.specs.pass_elide_proof.pass_proofs.rule_laws.rules.function_rules.Kept.{KeepsFunctionRules}
use Rattle.pass_elide_ready.specs.pass_elide_proof.pass_proofs.rule_shape.Uses.{uses_of}
use Rattle.pass_elide_ready.specs.pass_elide_proof.pass_proofs.rule_uses.Uses.{locals_in}
use Rattle.pass_elide_ready.specs.pass_elide_proof.pass_proofs.run_step.Step.{AtTerm, Fetched, fetch, incoming_from, label_of, phis_of}

-- ---- uses at the end of a block

chosen_listed : (term : Terminator) (v : ℕ) → chosen_by term ≡ Operand.Local v
    → IsListed v (locals_in (ending_operands term))
chosen_listed (Terminator.Branch c one other) v is = subst (λ (o : Operand). IsListed v (locals_in (o ∷ []))) (sym is) (inl refl)
chosen_listed (Terminator.Switch arg default cases) v is =
    subst (λ (o : Operand). IsListed v (locals_in (o ∷ map (λ k. k.arg.value) cases))) (sym is) (inl refl)
chosen_listed (Terminator.Jump label) v is = absurd (cc)
chosen_listed (Terminator.Ret value) v is = absurd (cc)
chosen_listed Terminator.Unreachable v is = absurd (cc)

-- what jumps chooses by no name
jump_chooses : (f : Function) (block target v : ℕ) (term : Terminator) → JumpsTo f block target
    → fetch f block (length (instrs_of f block)) ≡ AtTerm term → chosen_by term ≡ Operand.Local v → ⊥
jump_chooses f block target v term j stands is =
    let both : AtTerm term ≡ AtTerm (Terminator.Jump j.label) = sym stands ∙ j.stands in
    let same : term ≡ Terminator.Jump j.label = cc in
    none (sym (ap chosen_by same) ∙ is)
  where
    none : Operand.None ≡ Operand.Local v → ⊥
    none e = cc

-- ---- what a phi takes

record IsIncoming (is : List Incoming) (label v : ℕ) : Type 0 where
  index : ℕ
  incoming : Incoming
  there : slice_get is index ≡ Some incoming
  source : incoming.from ≡ label
  value : incoming.value ≡ Operand.Local v

incoming_found : (is : List Incoming) (label v : ℕ) → incoming_from is label ≡ Operand.Local v → IsIncoming is label v
incoming_found [] label v takes = absurd (cc)
incoming_found (i ∷ is) label v takes = on (i.from == label) refl takes (incoming_found is label v)
  where
    on : (b : Bool) → (i.from == label) ≡ b → (if b then i.value else incoming_from is label) ≡ Operand.Local v
        → (incoming_from is label ≡ Operand.Local v → IsIncoming is label v) → IsIncoming (i ∷ is) label v
    on true e h rest = record { index = 0; incoming = i; there = refl; source = equal_numbers i.from label e; value = h }
    on false e h rest =
        let x = rest h in
        record { index = suc x.index; incoming = x.incoming; there = x.there; source = x.source; value = x.value }

position : {A : Type 0} (xs : List A) (x : A) → IsListed x xs → (k : ℕ) × (slice_get xs k ≡ Some x)
position [] x l = absurd l
position (y ∷ xs) x (inl same) = (0, ap Some (sym same))
position (y ∷ xs) x (inr l) = let r = position xs x l in (suc r.0, r.1)

module _ (m : Module) (number : ℕ) (f : Function) (rules : KeepsFunctionRules m number f) (a : Asking)
    (qs : List Freeing) (form : HasForm f a qs) (uses : UsesAlone f a qs) where
  abbrev x : Shape
  x = shape_by f a qs

  abbrev s : AsksSo f a
  s = form.asking

  begin_uses : IsListed a.memory (used_by (fetch f a.begins a.begin))
  begin_uses =
      subst (λ (y : Fetched). IsListed a.memory (used_by y)) (sym (fetched f a.begins a.begin s.start s.is_start))
      (read_used a.memory s.start (begin_reads a.memory s.start s.is_begin s.takes))

  branch_used : (block one other v : ℕ)
      → fetch f block (length (instrs_of f block)) ≡ AtTerm (Terminator.Branch (Operand.Local v) one other)
      → IsListed v (used_by (fetch f block (length (instrs_of f block))))
  branch_used block one other v e = subst (λ (y : Fetched). IsListed v (used_by y)) (sym e) (inl refl)

  -- ---- at the end of a block to which a path leads

  module _ (block v : ℕ) (term : Terminator) (path : IsReached f (0 ∷ []) [] block)
      (stands : fetch f block (length (instrs_of f block)) ≡ AtTerm term) (is : chosen_by term ≡ Operand.Local v) where
    listed : IsListed v (locals_in (ending_operands term))
    listed = chosen_listed term v is

    here : IsListed v (used_by (fetch f block (length (instrs_of f block))))
    here = subst (λ (y : Fetched). IsListed v (used_by y)) (sym stands) listed

    -- the block is no block that jumps
    no_jump : (other target : ℕ) → JumpsTo f other target → block ≢ other
    no_jump other target j same =
        jump_chooses f other target v term j
        ((λ i. fetch f (sym same i) (length (instrs_of f (sym same i)))) ∙ stands) is

    -- where a branch alone uses it, that stands here
    one_branch : (home one other : ℕ) → uses_of f v ≤ 1
        → fetch f home (length (instrs_of f home)) ≡ AtTerm (Terminator.Branch (Operand.Local v) one other)
        → block ≡ home
    one_branch home one other most branch =
        (one_place v f most block (length (instrs_of f block)) home (length (instrs_of f home))
        (used_there v f block (length (instrs_of f block)) here)
        (used_there v f home (length (instrs_of f home)) (branch_used home one other v branch))).0

    not_memory : v ≡ a.memory → ⊥
    not_memory same =
        let begins : IsListed v (used_by (fetch f a.begins a.begin))
        = subst (λ (n : ℕ). IsListed n (used_by (fetch f a.begins a.begin))) (sym same) begin_uses in
        let place = one_place v f (subst (λ (n : ℕ). uses_of f n ≤ 1) (sym same) uses.memory) block
        (length (instrs_of f block)) a.begins a.begin (used_there v f block (length (instrs_of f block)) here)
        (used_there v f a.begins a.begin begins) in
        let lt = get_within (instrs_of f a.begins) a.begin s.start s.is_start in
        let long : length (instrs_of f block) ≡ length (instrs_of f a.begins)
        = ap (λ (b : ℕ). length (instrs_of f b)) place.0 in
        let last = place.1 in
        omega (arith, lt, long, last)

    not_freed : frees_name f v ≡ false
    not_freed = not_true (frees_name f v) (λ e. by (uses.freed block (length (instrs_of f block)) v e here))
      where
        none : (i : Instr) → slice_get (instrs_of f block) (length (instrs_of f block)) ≡ Some i → ⊥
        none i there = let lt = get_within (instrs_of f block) (length (instrs_of f block)) i there in omega (arith, lt)

        by : HandsBack f qs block (length (instrs_of f block)) → ⊥
        by (ToDeallocator i there deals) = none i there
        by (ToTest name pred ty l r there tests) = none (Instr.Icmp name pred ty l r) there

    not_made : made_of f a v ≡ false
    not_made = not_true (made_of f a v) (λ e. ⊎_elim
        (λ (h : (v == a.memory) ≡ true). not_memory (equal_numbers v a.memory h))
        (λ (h : (gives_in f a.allocates v || (gives_in f a.after v || gives_in f a.beside v)) ≡ true). ⊎_elim
        (λ (g : gives_in f a.allocates v ≡ true). past a.allocates (gives_there f a.allocates v g) (inl refl))
        (λ (g : (gives_in f a.after v || gives_in f a.beside v) ≡ true). ⊎_elim
        (λ (k : gives_in f a.after v ≡ true). past a.after (gives_there f a.after v k) (inr refl))
        (λ (k : gives_in f a.beside v ≡ true). beside (gives_there f a.beside v k))
        (either_true (gives_in f a.after v) (gives_in f a.beside v) g))
        (either_true (gives_in f a.allocates v) (gives_in f a.after v || gives_in f a.beside v) h))
        (either_true (v == a.memory) (gives_in f a.allocates v || (gives_in f a.after v || gives_in f a.beside v)) e))
      where
        away : IsSide a.allocates a.after block → ⊥
        away (inl same) = no_jump a.allocates a.after s.jumps same
        away (inr same) = no_jump a.after a.begins s.joins same

        past : (given : ℕ) → GivesThere f given v → IsSide a.allocates a.after given → ⊥
        past given g on_way =
            unended_first m number f rules a.asks a.allocates a.after a.beside a.begins
            (past_allocator m number f rules a s) (past_beside m number f rules a s) s.apart_beside s.apart_sides s.loads
            s.many v given g.at g.instr g.there g.gives on_way block path away term stands listed

        beside : GivesThere f a.beside v → ⊥
        beside g =
            unended_side m number f rules a.asks a.allocates a.after a.beside a.begins
            (past_allocator m number f rules a s) (past_beside m number f rules a s) s.apart_beside s.apart_sides s.loads
            s.many v a.beside g.at g.instr g.there g.gives refl block path (no_jump a.beside a.begins s.meets) term stands
            listed

    module _ (q : Freeing) (l : IsListed q qs) where
      z : FreesSo f q
      z = form.freeing q l

      not_frees : block ≢ q.frees
      not_frees = no_jump q.frees q.after z.jumps

      over : (w : MeetsSo f q) (given : ℕ) → GivesThere f given v → IsSide q.frees q.after given → ⊥
      over w given g on_way =
          unended_first m number f rules q.tests q.frees q.after q.beside w.ends (past_frees m number f rules q z w)
          (past_passes m number f rules q z w) z.apart w.apart w.loads w.many v given g.at g.instr g.there g.gives on_way
          block path (λ e. ⊎_elim not_frees (no_jump q.after w.ends w.joins) e) term stands listed

      over_beside : (w : MeetsSo f q) → GivesThere f q.beside v → ⊥
      over_beside w g =
          unended_side m number f rules q.tests q.frees q.after q.beside w.ends (past_frees m number f rules q z w)
          (past_passes m number f rules q z w) z.apart w.apart w.loads w.many v q.beside g.at g.instr g.there g.gives refl
          block path (no_jump q.beside w.ends w.meets) term stands listed

      straight : q.after ≡ q.beside → GivesThere f q.frees v → ⊥
      straight same g =
          no_end m number f rules v q.frees g.at g.instr g.there g.gives q.tests q.frees q.frees q.after
          (past_free m number f rules q z) (inl refl)
          (passes_straight m number f rules q z same v q.frees g.at g.instr g.there g.gives refl) block path
          (λ e. ⊎_elim not_frees not_frees e) term stands listed

      not_passed : passed_by f q v ≡ true → ⊥
      not_passed e = passed_ways f q z v (λ same g. straight same g) (λ w given g on. over w given g on)
          (λ w g. over_beside w g) e

    pub looks_so : LooksSo f a qs block v
    looks_so = on (v == a.need) refl
      where
        quiet : (v == a.need) ≡ false → tested_of qs v ≡ None → LooksSo f a qs block v
        quiet other none = LooksQuiet (record {
          need = other;
          made = not_made;
          freed = not_freed;
          tested = none;
          passed = not_true (passed_of f qs v) (λ e. none_passed f qs v qs (λ q l. l) (λ q l h. not_passed q l h) e);
        })

        by_test : (v == a.need) ≡ false → (o : Option Bool) → tested_of qs v ≡ o → LooksSo f a qs block v
        by_test other None e = quiet other e
        by_test other (Some b) e =
            let y = found (λ (d : Freeing). d.tested == v) (λ (d : Freeing). d.is_eq) qs b (sym (tested_is qs v) ∙ e) in
            let q = y.element in
            let same : q.tested ≡ v = equal_numbers q.tested v y.passes in
            LooksTested q y.listed
            (one_branch q.tests q.one q.other (subst (λ (n : ℕ). uses_of f n ≤ 1) same (uses.tested q y.listed))
            (subst (λ (n : ℕ). fetch f q.tests (length (instrs_of f q.tests))
            ≡ AtTerm (Terminator.Branch (Operand.Local n) q.one q.other)) same (form.freeing q y.listed).branch)) (sym same)

        on : (b : Bool) → (v == a.need) ≡ b → LooksSo f a qs block v
        on true e =
            let same : a.need ≡ v = sym (equal_numbers v a.need e) in
            LooksAsked (one_branch a.asks a.one a.other (subst (λ (n : ℕ). uses_of f n ≤ 1) same uses.need)
            (subst (λ (n : ℕ). fetch f a.asks (length (instrs_of f a.asks))
            ≡ AtTerm (Terminator.Branch (Operand.Local n) a.one a.other)) same s.branch)) not_freed
            (not_some (tested_of qs v) (λ b h.
            let y = found (λ (d : Freeing). d.tested == v) (λ (d : Freeing). d.is_eq) qs b (sym (tested_is qs v) ∙ h) in
            not_asked m number f rules a qs form x refl y.element (form.freeing y.element y.listed)
            (equal_numbers y.element.tested v y.passes ∙ sym same)))
            (not_true (passed_of f qs v) (λ h. none_passed f qs v qs (λ q l. l) (λ q l d. not_passed q l d) h))
        on false e = by_test e (tested_of qs v) refl

  -- ---- by a phi, from a block to which a path leads

  module _ (from label v : ℕ) (p : Phi) (path : IsReached f (0 ∷ []) [] from) (edge : HasEdge f from label)
      (l : IsListed p (phis_at f (position_of f label)))
      (takes : incoming_from p.incoming (label_from f from) ≡ Operand.Local v) where
    abbrev to : ℕ
    to = position_of f label

    own : HasEnd f from edge.term
    own = has_end f from edge.term edge.stands

    at_label : position_of f (label_from f from) ≡ from
    at_label =
        ap (λ (o : Option Block). position_of f (label_of o)) own.got ∙ own_label number f rules.definitions from own.own own.got

    on_edge : IsUsedOn f v from to
    on_edge = on (slice_get f.blocks to) refl
      where
        on : (o : Option Block) → slice_get f.blocks to ≡ o → IsUsedOn f v from to
        on None e = absurd (subst (λ (o : Option Block). IsListed p (phis_of o)) e l)
        on (Some c) e =
            let y = incoming_found p.incoming (label_from f from) v takes in
            let k = position c.phis p (subst (λ (o : Option Block). IsListed p (phis_of o)) e l) in
            used_on f v from to (record {
              block = c;
              got = e;
              at = k.0;
              phi = p;
              stands = k.1;
              index = y.index;
              incoming = y.incoming;
              there = y.there;
              source = ap (position_of f) y.source ∙ at_label;
              value = y.value;
            })

    -- a block that jumps to one without phis
    no_bare : (other target : ℕ) → JumpsTo f other target → phis_at f target ≡ [] → from ≢ other
    no_bare other target j bare same =
        let to_is : to ≡ target = only_jump f other target j to
        (subst (λ (n : ℕ). Leads f n to) same (leads_to f from label edge)) in
        subst (λ (ps : List Phi). IsListed p ps) (ap (phis_at f) to_is ∙ bare) l

    -- a name that is used at a place alone
    no_other : (block at : ℕ) → uses_of f v ≤ 1 → IsListed v (used_by (fetch f block at)) → ⊥
    no_other block at most there = no_phi_use v f most block at (used_there v f block at there) from to on_edge

    not_need : (v == a.need) ≡ false
    not_need = not_true (v == a.need) (λ e.
        let same : a.need ≡ v = sym (equal_numbers v a.need e) in
        no_other a.asks (length (instrs_of f a.asks)) (subst (λ (n : ℕ). uses_of f n ≤ 1) same uses.need)
        (subst (λ (n : ℕ). IsListed n (used_by (fetch f a.asks (length (instrs_of f a.asks))))) same
        (branch_used a.asks a.one a.other a.need s.branch)))

    not_tested : tested_of qs v ≡ None
    not_tested = not_some (tested_of qs v) (λ b e.
        let y = found (λ (d : Freeing). d.tested == v) (λ (d : Freeing). d.is_eq) qs b (sym (tested_is qs v) ∙ e) in
        let q = y.element in
        let same : q.tested ≡ v = equal_numbers q.tested v y.passes in
        no_other q.tests (length (instrs_of f q.tests)) (subst (λ (n : ℕ). uses_of f n ≤ 1) same (uses.tested q y.listed))
        (subst (λ (n : ℕ). IsListed n (used_by (fetch f q.tests (length (instrs_of f q.tests))))) same
        (branch_used q.tests q.one q.other q.tested (form.freeing q y.listed).branch)))

    taken_memory : v ≡ a.memory → ⊥
    taken_memory same =
        no_other a.begins a.begin (subst (λ (n : ℕ). uses_of f n ≤ 1) (sym same) uses.memory)
        (subst (λ (n : ℕ). IsListed n (used_by (fetch f a.begins a.begin))) (sym same) begin_uses)

    taken_made : from ≢ a.after → from ≢ a.beside → made_of f a v ≡ false
    taken_made not_after not_beside = not_true (made_of f a v) (λ e. ⊎_elim
        (λ (h : (v == a.memory) ≡ true). taken_memory (equal_numbers v a.memory h))
        (λ (h : (gives_in f a.allocates v || (gives_in f a.after v || gives_in f a.beside v)) ≡ true). ⊎_elim
        (λ (g : gives_in f a.allocates v ≡ true). past a.allocates (gives_there f a.allocates v g) (inl refl))
        (λ (g : (gives_in f a.after v || gives_in f a.beside v) ≡ true). ⊎_elim
        (λ (k : gives_in f a.after v ≡ true). past a.after (gives_there f a.after v k) (inr refl))
        (λ (k : gives_in f a.beside v ≡ true). beside (gives_there f a.beside v k))
        (either_true (gives_in f a.after v) (gives_in f a.beside v) g))
        (either_true (gives_in f a.allocates v) (gives_in f a.after v || gives_in f a.beside v) h))
        (either_true (v == a.memory) (gives_in f a.allocates v || (gives_in f a.after v || gives_in f a.beside v)) e))
      where
        past : (given : ℕ) → GivesThere f given v → IsSide a.allocates a.after given → ⊥
        past given g on_way =
            untaken_first m number f rules a.asks a.allocates a.after a.beside a.begins
            (past_allocator m number f rules a s) (past_beside m number f rules a s) s.apart_beside s.apart_sides s.loads
            s.many v given g.at g.instr g.there g.gives on_way from path
            (λ e. ⊎_elim (no_bare a.allocates a.after s.jumps s.bare_after) not_after e) own.own own.got to p l takes

        beside : GivesThere f a.beside v → ⊥
        beside g =
            untaken_side m number f rules a.asks a.allocates a.after a.beside a.begins
            (past_allocator m number f rules a s) (past_beside m number f rules a s) s.apart_beside s.apart_sides s.loads
            s.many v a.beside g.at g.instr g.there g.gives refl from path not_beside own.own own.got to p l takes

    module _ (q : Freeing) (lq : IsListed q qs)
        (apart : MeetsSo f q → (from ≢ q.after) × (from ≢ q.beside)) where
      y : FreesSo f q
      y = form.freeing q lq

      not_from : from ≢ q.frees
      not_from = no_bare q.frees q.after y.jumps (uses.bare q lq)

      taken_over : (w : MeetsSo f q) (given : ℕ) → GivesThere f given v → IsSide q.frees q.after given → ⊥
      taken_over w given g on_way =
          untaken_first m number f rules q.tests q.frees q.after q.beside w.ends (past_frees m number f rules q y w)
          (past_passes m number f rules q y w) y.apart w.apart w.loads w.many v given g.at g.instr g.there g.gives on_way
          from path (λ e. ⊎_elim not_from (apart w).0 e) own.own own.got to p l takes

      taken_beside : (w : MeetsSo f q) → GivesThere f q.beside v → ⊥
      taken_beside w g =
          untaken_side m number f rules q.tests q.frees q.after q.beside w.ends (past_frees m number f rules q y w)
          (past_passes m number f rules q y w) y.apart w.apart w.loads w.many v q.beside g.at g.instr g.there g.gives refl
          from path (apart w).1 own.own own.got to p l takes

      taken_straight : q.after ≡ q.beside → GivesThere f q.frees v → ⊥
      taken_straight same g =
          no_phi m number f rules v q.frees g.at g.instr g.there g.gives q.tests q.frees q.frees q.after
          (past_free m number f rules q y) (inl refl)
          (passes_straight m number f rules q y same v q.frees g.at g.instr g.there g.gives refl) from path
          (λ e. ⊎_elim not_from not_from e) own.own own.got to p l takes

      taken_passed : passed_by f q v ≡ true → ⊥
      taken_passed e = passed_ways f q y v (λ same g. taken_straight same g) (λ w given g on. taken_over w given g on)
          (λ w g. taken_beside w g) e

    pub takes_so : TakesSo f a qs from v
    takes_so = record {
      need = not_need;
      freed = not_true (frees_name f v) (λ e. uses.freed_on from to v e on_edge);
      tested = not_tested;
      made = taken_made;
      passed = λ apart. not_true (passed_of f qs v)
          (λ e. none_passed f qs v qs (λ q l'. l') (λ q l' h. taken_passed q l' (apart q l') h) e);
    }
