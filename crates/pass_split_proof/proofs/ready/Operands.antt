-- Operands of a function may be read in its parts, where its rules hold.
use Rattle.std.proofs.Common.{◌≡◌, ◌⊎◌, inl, inr, ℕ, Bool, true, false, List, [], ◌∷◌, refl, sym, ap, ◌∙◌, subst}
use Rattle.std.proofs.lemmas.Bool.{cases_eq, false≢true}
use Rattle.std.specs.List.{list_all}
use Rattle.std.specs.Prelude.{None, Option, Some, is_some, not, slice_get, ◌&&◌, ◌||◌}
use Rattle.pass_proofs.proofs.flow_solver.Lists.{listed_at}
use Rattle.pass_proofs.specs.flow_solver.Paths.{IsListed}
use Rattle.pass_proofs.specs.frame_layout.declared.layout.Layouts.{Layouts}
use Rattle.pass_proofs.specs.ir_base.declared.name.Name.{Name}
use Rattle.pass_proofs.proofs.ir_laws.facts.Truth.{and_first, and_second}
use Rattle.pass_proofs.proofs.ir_laws.paths.renamed.Uses.{stands_in}
use Rattle.pass_proofs.specs.ir_model.Names.{declaration_named, function_named, global_named}
use Rattle.pass_proofs.specs.ir_model.declared.instr.Instr.{Instr}
use Rattle.pass_proofs.specs.ir_model.declared.instr.Phi.{Phi}
use Rattle.pass_proofs.specs.ir_model.declared.module.Block.{Block}
use Rattle.pass_proofs.specs.ir_model.declared.module.Function.{Function}
use Rattle.pass_proofs.specs.ir_model.declared.module.GlobalItem.{GlobalItem}
use Rattle.pass_proofs.specs.ir_model.declared.module.Module.{Module}
use Rattle.pass_proofs.specs.ir_model.declared.operand.Callee.{Callee}
use Rattle.pass_proofs.specs.ir_model.declared.operand.Intrinsic.{Intrinsic}
use Rattle.pass_proofs.specs.ir_model.declared.operand.Operand.{Operand}
use Rattle.pass_proofs.specs.ir_parts.Contents.{ending_operands, instr_operands}
use Rattle.pass_proofs.proofs.ir_tables.Tables.{first_where-within}
use Rattle.pass_split_proof.proofs.ready.Rules.{at_instr}
use Rattle.pass_split_proof.specs.first_exits.Parted.{parted_module}
use Rattle.pass_split_proof.specs.ready.Names.{HasMovedNames}
use Rattle.pass_split_proof.specs.states.Values.{IsStopResult}
use Rattle.pass_split_proof.specs.steps.Operands.{IsReadable, IsSameAddress}
use Rattle.pass_proofs.proofs.rule_laws.rules.sources.Places.{instr_there, point}
use Rattle.pass_proofs.proofs.rule_laws.rules.uses.Switched.{IsSwitched, not_in_instr, not_in_phi, not_switched_on, switched}
use Rattle.pass_proofs.specs.rule_locals.Addresses.{is_no_function}
use Rattle.pass_proofs.specs.rule_locals.Intrinsics.{first_misplaced, misplaces}
use Rattle.pass_proofs.specs.rule_names.declared.stage.Stage.{Stage}
use Rattle.pass_proofs.specs.rule_shape.Switches.{wrong_switch}
use Rattle.pass_proofs.specs.rule_shape.Uses.{phi_operands}
use Rattle.pass_proofs.specs.rule_uses.Uses.{locals_in}
use Rattle.pass_proofs.specs.run_laws.changed.Changed.{Each}
use Rattle.pass_proofs.specs.run_step.Step.{AtInstr, fetch}
use Rattle.pass_proofs.specs.run_step.Values.{address_from, address_of, pointer_to}

-- ---- addresses

-- a global keeps its address in a module with the same globals, where no function there has its name
pub global_same : (m n : Module) (x : Name) → n.globals ≡ m.globals → is_some (global_named m x) ≡ true
    → function_named m x ≡ None → function_named n x ≡ None → IsSameAddress m n x
global_same m n x globals there ours theirs = on (global_named m x) refl there
  where
    same_global : global_named n x ≡ global_named m x
    same_global = ap (λ (gs : List GlobalItem). global_named (record m { globals = gs }) x) globals

    on : (o : Option ℕ) → global_named m x ≡ o → is_some o ≡ true → IsSameAddress m n x
    on None e h = absurd (cc)
    on (Some b) e h =
        let here : address_of m x ≡ pointer_to b = ap (λ (f : Option ℕ). address_from m f (global_named m x)
        (declaration_named m x)) ours ∙ ap (λ (o : Option ℕ). address_from m None o (declaration_named m x)) e in
        let now : address_of n x ≡ pointer_to b = ap (λ (f : Option ℕ). address_from n f (global_named n x)
        (declaration_named n x)) theirs ∙ ap (λ (o : Option ℕ). address_from n None o (declaration_named n x))
        (same_global ∙ e) in
        record { same = now ∙ sym here; global = inl (b, (here, first_where-within _ m.globals b (sym e))) }

pub address_kept : (ls : Layouts) (m : Module) (x : Name) → HasMovedNames ls m → is_some (global_named m x) ≡ true
    → IsSameAddress m (parted_module ls m) x
address_kept ls m x names there =
    global_same m (parted_module ls m) x refl there (names.apart x there)
    (names.others x (names.apart x there) (either (is_some (declaration_named m x)) (is_some (global_named m x))
    there))
  where
    either : (a b : Bool) → b ≡ true → (a || b) ≡ true
    either true b e = refl
    either false b e = e

-- ---- lists of operands

module _ (ls : Layouts) (m : Module) (names : HasMovedNames ls m) (f : Function) where
  abbrev Readable : Operand → Type 0
  Readable = IsReadable m (parted_module ls m) f

  -- none of the locals is what a suspend gives
  abbrev pub AreRead : List Operand → Type 0
  AreRead xs = (v : ℕ) → IsListed v (locals_in xs) → IsStopResult f v → ⊥

  one : (x : Operand) → AreRead (x ∷ []) → is_no_function m x ≡ true → IsReadable m (parted_module ls m) f x
  one (Operand.Local v) read h = read v (inl refl)
  one (Operand.Global name) read h = address_kept ls m name names h
  one (Operand.Number z) read h = tt
  one Operand.True read h = tt
  one Operand.False read h = tt
  one Operand.Null read h = tt
  one Operand.None read h = tt
  one Operand.Poison read h = tt

  pub first_read : (x : Operand) (xs : List Operand) → AreRead (x ∷ xs) → AreRead (x ∷ [])
  first_read (Operand.Local v) xs read w (inl e) = read w (inl e)
  first_read (Operand.Local v) xs read w (inr none) = absurd none
  first_read (Operand.Global name) xs read w l = absurd l
  first_read (Operand.Number z) xs read w l = absurd l
  first_read Operand.True xs read w l = absurd l
  first_read Operand.False xs read w l = absurd l
  first_read Operand.Null xs read w l = absurd l
  first_read Operand.None xs read w l = absurd l
  first_read Operand.Poison xs read w l = absurd l

  pub rest_read : (x : Operand) (xs : List Operand) → AreRead (x ∷ xs) → AreRead xs
  rest_read (Operand.Local v) xs read w l = read w (inr l)
  rest_read (Operand.Global name) xs read w l = read w l
  rest_read (Operand.Number z) xs read w l = read w l
  rest_read Operand.True xs read w l = read w l
  rest_read Operand.False xs read w l = read w l
  rest_read Operand.Null xs read w l = read w l
  rest_read Operand.None xs read w l = read w l
  rest_read Operand.Poison xs read w l = read w l

  pub all_readable : (xs : List Operand) → AreRead xs → list_all (is_no_function m) xs ≡ true
      → Each (IsReadable m (parted_module ls m) f) xs
  all_readable [] read h = tt
  all_readable (x ∷ xs) read h = (
    one x (first_read x xs read) (and_first (is_no_function m x) (list_all (is_no_function m) xs) h),
    all_readable xs (rest_read x xs read) (and_second (is_no_function m x) (list_all (is_no_function m) xs) h),
  )

-- ---- what a suspend gives is read by its switch alone (K3)

-- the suspend of a block that gives the name
pub record IsStop (f : Function) (v block : ℕ) : Type 0 where
  pub at : ℕ
  pub instr : Instr
  pub own : Block
  pub got : slice_get f.blocks block ≡ Some own
  pub switch : IsSwitched f own at instr
  pub gives : switch.value ≡ v

module _ (k : ℕ) (f : Function) (coroutine : f.coroutine ≡ true) (switches : wrong_switch k f ≡ None) where
  pub stop : (v : ℕ) (r : IsStopResult f v) → IsStop f v r.block
  stop v r =
      let i : Instr = Instr.Call (Some v) r.must_tail r.ty (Callee.Intrinsic Intrinsic.CoroSuspend) r.args in
      let y = stands_in f (point r.block r.at) i (instr_there f r.block r.at i r.there) in
      let w = switched k f coroutine switches r.block r.at y.block i y.got y.stands refl in
      let both : Some v ≡ Some w.value = w.result in
      let same : v ≡ w.value = cc in
      record { at = r.at; instr = i; own = y.block; got = y.got; switch = w; gives = sym same }

  pub not_stopped : (block at v : ℕ) (i : Instr) → fetch f block at ≡ AtInstr i
      → IsListed v (locals_in (instr_operands i)) → IsStopResult f v → ⊥
  not_stopped block at v i here l r =
      let x = stop v r in
      let y = stands_in f (point block at) i (instr_there f block at i here) in
      not_in_instr k f coroutine switches r.block x.at x.own x.instr x.got x.switch block y.block i y.got
      (listed_at y.block.instrs at i y.stands) (cases_eq block r.block)
      (subst (λ (u : ℕ). IsListed u (locals_in (instr_operands i))) (sym x.gives) l)

  pub not_taken : (block v : ℕ) (b : Block) (p : Phi) → slice_get f.blocks block ≡ Some b → IsListed p b.phis
      → IsListed v (locals_in (phi_operands p)) → IsStopResult f v → ⊥
  not_taken block v b p got n l r =
      let x = stop v r in
      not_in_phi k f coroutine switches r.block x.at x.own x.instr x.got x.switch block b p got n
      (cases_eq block r.block) (subst (λ (u : ℕ). IsListed u (locals_in (phi_operands p))) (sym x.gives) l)

  -- of the terminators its own switch alone
  pub stop_here : (block v : ℕ) (b : Block) → slice_get f.blocks block ≡ Some b
      → IsListed v (locals_in (ending_operands b.term)) → (r : IsStopResult f v) → block ≡ r.block
  stop_here block v b got l r = on (cases_eq block r.block)
    where
      on : (block ≡ r.block) ⊎ (block ≡ r.block → ⊥) → block ≡ r.block
      on (inl e) = e
      on (inr other) =
          let x = stop v r in
          absurd (not_switched_on k f coroutine switches r.block x.at x.own x.instr x.got x.switch block b got other
          (subst (λ (u : ℕ). IsListed u (locals_in (ending_operands b.term))) (sym x.gives) l))

-- no suspend stands outside coroutines (K1)
pub no_stop_outside : (k : ℕ) (f : Function) → first_misplaced Stage.Source k f ≡ None → f.coroutine ≡ false → (v : ℕ)
    → IsStopResult f v → ⊥
no_stop_outside k f none plain v r =
    let e = at_instr k f (misplaces Stage.Source f.coroutine) none r.block r.at
    (Instr.Call (Some v) r.must_tail r.ty (Callee.Intrinsic Intrinsic.CoroSuspend) r.args) r.there in
    false≢true (sym e ∙ ap (λ (c : Bool). not c && true) plain)
