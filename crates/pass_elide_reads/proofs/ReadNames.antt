-- What an instruction reads in a block to which a path leads (`ReadsPlain`), in a coroutine that has a form.
use Rattle.std.proofs.Common.{◌≡◌, ◌≢◌, ◌⊎◌, ◌∙◌, ◌<◌, ◌≤◌, inl, inr, ⊎_elim, ℕ, Bool, IsTrue, true, false, List, [], ◌∷◌, Option, None, Some, ap, arith, length, refl, subst, sym}
use Rattle.std.proofs.lemmas.Bool.{false≢true}
use Rattle.std.specs.Prelude.{slice_get, if◌then◌else◌, ◌&&◌, ◌||◌, ◌==◌}
use Rattle.elide_shape.specs.Calls.{deals_by}
use Rattle.elide_shape.specs.declared.calls.Dealing.{Dealing}
use Rattle.pass_elide_edges.proofs.pass_elide_proof.pass_proofs.ir_laws.facts.Truth.{equal_numbers, itself}
use Rattle.pass_elide_edges.proofs.pass_elide_proof.pass_proofs.ir_laws.facts.Lists.{get_within}
use Rattle.pass_elide_edges.proofs.pass_elide_proof.ElidedFound.{fetched}
use Rattle.pass_elide_edges.proofs.pass_elide_proof.Facts.{some_none}
use Rattle.pass_elide_edges.proofs.pass_elide_proof.pass_proofs.pass_kept_proof.Read.{read_used}
use Rattle.pass_elide_reads.proofs.Diamonds.{IsSide}
use Rattle.pass_elide_reads.proofs.Regions.{past_allocator, past_beside, past_free, past_frees, past_passes}
use Rattle.pass_elide_reads.proofs.Sides.{unread_first, unread_side}
use Rattle.pass_elide_reads.proofs.Used.{no_instr}
use Rattle.pass_elide_reads.proofs.Ways.{either_true, none_passed, passed_ways, passes_straight}
use Rattle.pass_elide_reads.specs.Uses.{HandsBack, ToDeallocator, ToTest, UsesAlone}
use Rattle.pass_elide_ready.proofs.Listed.{first_of, found, tested_is, tests_are}
use Rattle.pass_elide_ready.proofs.Numbers.{GivesThere, gives_there, not_true, same_chosen}
use Rattle.pass_elide_ready.proofs.OneUse.{one_place, used_there}
use Rattle.pass_elide_ready.specs.Form.{Asking, AsksSo, Freeing, FreesSo, HasForm, MeetsSo, frees_name, gives_in, made_of, passed_by, passed_of, shape_by, tested_of, tests_of}
use Rattle.pass_elide_ready.specs.pass_elide_proof.Elision.{Shape}
use Rattle.pass_elide_ready.specs.pass_elide_proof.Places.{instrs_of}
use Rattle.pass_elide_ready.specs.pass_elide_proof.Placing.{ReadsPlain, is_test}
use Rattle.pass_elide_ready.specs.pass_elide_proof.pass_proofs.flow_blocks.Reach.{IsReached}
use Rattle.pass_elide_ready.specs.pass_elide_proof.pass_proofs.flow_solver.Paths.{IsListed}
use Rattle.pass_elide_ready.specs.pass_elide_proof.pass_proofs.frame_crossing.Paths.{used_by}
use Rattle.pass_elide_ready.specs.pass_elide_proof.pass_proofs.ir_model.Names.{is_local}
use Rattle.pass_elide_ready.specs.pass_elide_proof.pass_proofs.ir_model.declared.instr.Instr.{Instr}
use Rattle.pass_elide_ready.specs.pass_elide_proof.pass_proofs.ir_model.declared.instr.Terminator.{Terminator}
use Rattle.pass_elide_ready.specs.pass_elide_proof.pass_proofs.ir_model.declared.module.Function.{Function}
use Rattle.pass_elide_ready.specs.pass_elide_proof.pass_proofs.ir_model.declared.module.Module.{Module}
use Rattle.pass_elide_ready.specs.pass_elide_proof.pass_proofs.ir_model.declared.operand.Callee.{Callee}
use Rattle.pass_elide_ready.specs.pass_elide_proof.pass_proofs.ir_model.declared.operand.Intrinsic.{Intrinsic}
use Rattle.pass_elide_ready.specs.pass_elide_proof.pass_proofs.ir_model.declared.operand.Operand.{Operand}
use Rattle.pass_elide_ready.specs.pass_elide_proof.pass_proofs.ir_paths.Windows.{call_operand, is_call_of}
use Rattle.pass_elide_ready.specs.pass_elide_proof.pass_proofs.rule_laws.rules.function_rules.Kept.{KeepsFunctionRules}
use Rattle.pass_elide_ready.specs.pass_elide_proof.pass_proofs.rule_shape.Uses.{uses_of}
use Rattle.pass_elide_ready.specs.pass_elide_proof.pass_proofs.run_step.Reads.{reads}
use Rattle.pass_elide_ready.specs.pass_elide_proof.pass_proofs.run_step.Step.{AtTerm, Fetched, fetch}

pub begin_reads : (v : ℕ) (i : Instr) → is_call_of Intrinsic.CoroBegin i ≡ true → call_operand i 1 ≡ Operand.Local v
    → IsTrue (reads v i)
begin_reads v (Instr.Call result must_tail ty (Callee.Intrinsic Intrinsic.CoroBegin) args) e is =
    ap (is_local v) is ∙ itself v
begin_reads v _ e is = absurd (false≢true e)

pub not_some : {A : Type 0} (o : Option A) → ((y : A) → o ≡ Some y → ⊥) → o ≡ None
not_some None h = refl
not_some (Some y) h = absurd (h y refl)

-- one that is listed passes, so something is found
some_found : {A : Type 0} (test : Freeing → Bool) (value : Freeing → A) (qs : List Freeing) (q : Freeing)
    → IsListed q qs → test q ≡ true → first_of test value qs ≡ None → ⊥
some_found test value [] q l passes none = l
some_found test value (p ∷ qs) q l passes none =
    on (test p) refl none (λ later h. some_found test value qs q later passes h)
  where
    on : (b : Bool) → test p ≡ b → (if b then Some (value p) else first_of test value qs) ≡ None
        → (IsListed q qs → first_of test value qs ≡ None → ⊥) → ⊥
    on true e h rest = absurd (cc)
    on false e h rest = ⊎_elim
        (λ (same : q ≡ p). false≢true (sym e ∙ ap test (sym same) ∙ passes))
        (λ (later : IsListed q qs). rest later h) l

module _ (m : Module) (number : ℕ) (f : Function) (rules : KeepsFunctionRules m number f) (a : Asking)
    (qs : List Freeing) (form : HasForm f a qs) (uses : UsesAlone f a qs) where
  abbrev x : Shape
  x = shape_by f a qs

  abbrev s : AsksSo f a
  s = form.asking

  -- ---- ends of blocks

  -- what a branch on a name uses
  chosen_used : (block one other v : ℕ)
      → fetch f block (length (instrs_of f block)) ≡ AtTerm (Terminator.Branch (Operand.Local v) one other)
      → IsListed v (used_by (fetch f block (length (instrs_of f block))))
  chosen_used block one other v e = subst (λ (y : Fetched). IsListed v (used_by y)) (sym e) (inl refl)

  -- a name that a branch alone uses is read by no instruction
  unread : (v home one other : ℕ) → uses_of f v ≤ 1
      → fetch f home (length (instrs_of f home)) ≡ AtTerm (Terminator.Branch (Operand.Local v) one other)
      → (block at : ℕ) (i : Instr) → slice_get (instrs_of f block) at ≡ Some i → IsTrue (reads v i) → ⊥
  unread v home one other most branch block at i there is =
      let used : IsListed v (used_by (fetch f block at))
      = subst (λ (y : Fetched). IsListed v (used_by y)) (sym (fetched f block at i there)) (read_used v i is) in
      let place = one_place v f most block at home (length (instrs_of f home)) (used_there v f block at used)
      (used_there v f home (length (instrs_of f home)) (chosen_used home one other v branch)) in
      let lt = get_within (instrs_of f block) at i there in
      let long : length (instrs_of f block) ≡ length (instrs_of f home)
      = ap (λ (b : ℕ). length (instrs_of f b)) place.0 in
      let last = place.1 in
      omega (arith, lt, long, last)

  -- ---- an instruction in a block to which a path leads

  module _ (block at v : ℕ) (i : Instr) (path : IsReached f (0 ∷ []) [] block)
      (there : slice_get (instrs_of f block) at ≡ Some i) (is : IsTrue (reads v i)) where
    used : IsListed v (used_by (fetch f block at))
    used = subst (λ (y : Fetched). IsListed v (used_by y)) (sym (fetched f block at i there)) (read_used v i is)

    need : (v == a.need) ≡ false
    need =
        not_true (v == a.need) (λ e.
        let same : a.need ≡ v = sym (equal_numbers v a.need e) in
        unread v a.asks a.one a.other (subst (λ (n : ℕ). uses_of f n ≤ 1) same uses.need)
        (subst (λ (n : ℕ). fetch f a.asks (length (instrs_of f a.asks))
        ≡ AtTerm (Terminator.Branch (Operand.Local n) a.one a.other)) same s.branch) block at i there is)

    tested : tested_of qs v ≡ None
    tested =
        not_some (tested_of qs v) (λ b e.
        let y = found (λ (d : Freeing). d.tested == v) (λ (d : Freeing). d.is_eq) qs b (sym (tested_is qs v) ∙ e) in
        let q = y.element in
        let same : q.tested ≡ v = equal_numbers q.tested v y.passes in
        unread v q.tests q.one q.other (subst (λ (n : ℕ). uses_of f n ≤ 1) same (uses.tested q y.listed))
        (subst (λ (n : ℕ). fetch f q.tests (length (instrs_of f q.tests))
        ≡ AtTerm (Terminator.Branch (Operand.Local n) q.one q.other)) same (form.freeing q y.listed).branch)
        block at i there is)

    freed : deals_by Dealing.Frees i ≡ false → is_test x i ≡ false → frees_name f v ≡ false
    freed no_dealing no_test = not_true (frees_name f v) (λ e. by (uses.freed block at v e used))
      where
        same_instr : (j : Instr) → slice_get (instrs_of f block) at ≡ Some j → j ≡ i
        same_instr j here = let both : Some j ≡ Some i = sym here ∙ there in cc

        by : HandsBack f qs block at → ⊥
        by (ToDeallocator j here deals) =
            false≢true (sym no_dealing ∙ sym (ap (deals_by Dealing.Frees) (same_instr j here)) ∙ deals)
        by (ToTest name pred ty l r here tests) =
            false≢true (sym no_test ∙ sym (ap (is_test x) (same_instr (Instr.Icmp name pred ty l r) here)) ∙ tests)

    -- ---- what is made where the frame is allocated

    memory : is_call_of Intrinsic.CoroBegin i ≡ false → v ≡ a.memory → ⊥
    memory no_begin same =
        let reads_it : IsTrue (reads v s.start)
        = begin_reads v s.start s.is_begin (s.takes ∙ ap Operand.Local (sym same)) in
        let begins : IsListed v (used_by (fetch f a.begins a.begin))
        = subst (λ (y : Fetched). IsListed v (used_by y)) (sym (fetched f a.begins a.begin s.start s.is_start))
        (read_used v s.start reads_it) in
        let place = one_place v f (subst (λ (n : ℕ). uses_of f n ≤ 1) (sym same) uses.memory) block at a.begins a.begin
        (used_there v f block at used) (used_there v f a.begins a.begin begins) in
        let both : Some i ≡ Some s.start
        = sym there ∙ (λ j. slice_get (instrs_of f (place.0 j)) (place.1 j)) ∙ s.is_start in
        let one : i ≡ s.start = cc in
        false≢true (sym no_begin ∙ ap (is_call_of Intrinsic.CoroBegin) one ∙ s.is_begin)

    made : is_call_of Intrinsic.CoroBegin i ≡ false → x.waits block ≡ None → made_of f a v ≡ false
    made no_begin no_wait = not_true (made_of f a v) (λ e. ⊎_elim
        (λ (h : (v == a.memory) ≡ true). memory no_begin (equal_numbers v a.memory h))
        (λ (h : (gives_in f a.allocates v || (gives_in f a.after v || gives_in f a.beside v)) ≡ true). ⊎_elim
        (λ (g : gives_in f a.allocates v ≡ true). past a.allocates (gives_there f a.allocates v g) (inl refl))
        (λ (g : (gives_in f a.after v || gives_in f a.beside v) ≡ true). ⊎_elim
        (λ (k : gives_in f a.after v ≡ true). past a.after (gives_there f a.after v k) (inr refl))
        (λ (k : gives_in f a.beside v ≡ true). beside (gives_there f a.beside v k))
        (either_true (gives_in f a.after v) (gives_in f a.beside v) g))
        (either_true (gives_in f a.allocates v) (gives_in f a.after v || gives_in f a.beside v) h))
        (either_true (v == a.memory) (gives_in f a.allocates v || (gives_in f a.after v || gives_in f a.beside v)) e))
      where
        not_waiting : block ≢ a.allocates
        not_waiting same =
            some_none (x.waits block) a.asks
            (ap x.waits same ∙ same_chosen a.allocates (Some a.asks) None) no_wait

        past : (given : ℕ) → GivesThere f given v → IsSide a.allocates a.after given → ⊥
        past given g on_way =
            unread_first m number f rules a.asks a.allocates a.after a.beside a.begins
            (past_allocator m number f rules a s) (past_beside m number f rules a s) s.apart_beside s.apart_sides s.loads
            s.many v given g.at g.instr g.there g.gives on_way block path not_waiting at i there is

        beside : GivesThere f a.beside v → ⊥
        beside g =
            unread_side m number f rules a.asks a.allocates a.after a.beside a.begins
            (past_allocator m number f rules a s) (past_beside m number f rules a s) s.apart_beside s.apart_sides s.loads
            s.many v a.beside g.at g.instr g.there g.gives refl block path at i there is

    -- ---- what is made where it is freed

    module _ (q : Freeing) (l : IsListed q qs) (no_frees : tests_of qs block ≡ None) where
      z : FreesSo f q
      z = form.freeing q l

      not_there : block ≢ q.frees
      not_there same =
          some_found (λ (d : Freeing). d.frees == block) (λ (d : Freeing). d.tests) qs q l
          (ap (λ (b : ℕ). q.frees == b) same ∙ itself q.frees) (sym (tests_are qs block) ∙ no_frees)

      over : (w : MeetsSo f q) (given : ℕ) → GivesThere f given v → IsSide q.frees q.after given → ⊥
      over w given g on_way =
          unread_first m number f rules q.tests q.frees q.after q.beside w.ends (past_frees m number f rules q z w)
          (past_passes m number f rules q z w) z.apart w.apart w.loads w.many v given g.at g.instr g.there g.gives on_way
          block path not_there at i there is

      over_beside : (w : MeetsSo f q) → GivesThere f q.beside v → ⊥
      over_beside w g =
          unread_side m number f rules q.tests q.frees q.after q.beside w.ends (past_frees m number f rules q z w)
          (past_passes m number f rules q z w) z.apart w.apart w.loads w.many v q.beside g.at g.instr g.there g.gives refl
          block path at i there is

      straight : q.after ≡ q.beside → GivesThere f q.frees v → ⊥
      straight same g =
          no_instr m number f rules v q.frees g.at g.instr g.there g.gives q.tests q.frees q.frees q.after
          (past_free m number f rules q z) (inl refl)
          (passes_straight m number f rules q z same v q.frees g.at g.instr g.there g.gives refl) block path
          (λ e. ⊎_elim not_there not_there e) at i there (read_used v i is)

      not_passed : passed_by f q v ≡ true → ⊥
      not_passed e = passed_ways f q z v (λ same g. straight same g) (λ w given g on. over w given g on)
          (λ w g. over_beside w g) e

    pub reads_plain : ReadsPlain (shape_by f a qs) block i v
    reads_plain = record {
      need = need;
      tested = tested;
      freed = freed;
      made = made;
      passed = λ no_frees. not_true (passed_of f qs v)
          (λ e. none_passed f qs v qs (λ q l. l) (λ q l h. not_passed q l no_frees h) e);
    }
