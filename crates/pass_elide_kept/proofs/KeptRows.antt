-- Keepers stay where one activation of the stack goes on.
use Rattle.std.proofs.Common.{◌≡◌, ◌+◌, ◌⊎◌, ◌∙◌, ◌&&◌, ◌==◌, ◌∷◌, [], ap, false, inl, inr, List, Option, refl, subst, sym, true, ℕ}
use Rattle.std.specs.Prelude.{None, Some, slice_get}
use Rattle.elide_sites.specs.Destroyed.{is_stop}
use Rattle.elide_sites.specs.Sites.{is_destroy_of}
use Rattle.pass_elide_kept.proofs.Keepers.{IsSameCall, keeper_moves, kept_as, kept_top}
use Rattle.pass_elide_kept.proofs.Moves.{MovesBy}
use Rattle.pass_elide_kept.specs.Keepers.{IsOver, IsRenewed, KeepersIn}
use Rattle.pass_elide_kept.specs.Kept.{HasKeeper, IsKeptIn}
use Rattle.pass_elide_proof.proofs.CallersInstr.{instr_moves}
use Rattle.pass_elide_proof.proofs.CallersOnward.{given_as, instr_found, stays_over}
use Rattle.pass_elide_proof.proofs.Facts.{not_both}
use Rattle.pass_elide_proof.proofs.Stacks.{KeepsHead, destroys_on}
use Rattle.pass_elide_proof.specs.Callers.{StandsAtInstr, WasBefore}
use Rattle.pass_elide_proof.specs.Elision.{Elision, function_in}
use Rattle.pass_elide_proof.specs.Invariant.{IsDestroying}
use Rattle.pass_elide_proof.proofs.pass_proofs.ir_laws.paths.renamed.Outside.{where_none}
use Rattle.pass_elide_proof.specs.pass_proofs.ir_laws.facts.renamed.Regular.{passes}
use Rattle.pass_elide_proof.specs.pass_proofs.ir_model.declared.instr.Instr.{Instr}
use Rattle.pass_elide_proof.specs.pass_proofs.ir_parts.Contents.{result_of}
use Rattle.pass_elide_proof.specs.pass_proofs.run_framed.Framed.{is_given}
use Rattle.pass_elide_proof.specs.pass_proofs.run_laws.changed.Changed.{Each}
use Rattle.pass_elide_proof.specs.pass_proofs.run_source.State.{is_finished}
use Rattle.pass_elide_proof.specs.pass_proofs.run_source.declared.state.Activation.{Activation}
use Rattle.pass_elide_proof.specs.pass_proofs.run_source.declared.state.Instance.{Instance}
use Rattle.pass_elide_proof.specs.pass_proofs.run_source.declared.state.State.{State}

-- ---- instances as they were, but for their status

pub over_on : (z : State) (xs : List Instance) (number : ℕ) (y : Instance) (was : WasBefore xs number y)
    → IsOver z number was.before → IsOver z number y
over_on z xs number y was h =
    (stays_over (is_finished was.before.status) (is_finished y.status) h.0 was.going, h.1)

pub renewed_on : (z : State) (xs ys : List Instance)
    → ((number : ℕ) (y : Instance) → slice_get ys number ≡ Some y → WasBefore xs number y) → (c d : Activation)
    → d.mode ≡ c.mode → d.instance ≡ c.instance → IsRenewed z xs c → IsRenewed z ys d
renewed_on z xs ys was c d mode instance h block offset none is number y there at from =
    let old = was number y there in
    h block offset (sym instance ∙ none) (sym mode ∙ is) number old.before old.there (sym old.block ∙ at)
    (sym old.start ∙ from)

pub all_renewed : (z : State) (xs ys : List Instance)
    → ((number : ℕ) (y : Instance) → slice_get ys number ≡ Some y → WasBefore xs number y) → (rows : List Activation)
    → Each (IsRenewed z xs) rows → Each (IsRenewed z ys) rows
all_renewed z xs ys was [] h = tt
all_renewed z xs ys was (c ∷ rows) h =
    (renewed_on z xs ys was c c refl refl h.0, all_renewed z xs ys was rows h.1)

-- ---- the rows of the stack

module _ (e : Elision) (z t u : State)
    (was : (number : ℕ) (y : Instance) → slice_get u.instances number ≡ Some y → WasBefore t.instances number y)
    (frames : (number : ℕ) (y : Instance) → slice_get t.instances number ≡ Some y → is_given u.world.memory y ≡ true
    → is_given t.world.memory y ≡ true) (h : KeepersIn e z t) where
  given_then : (number : ℕ) (y : Instance) (there : slice_get u.instances number ≡ Some y)
      → is_given u.world.memory y ≡ true → is_given t.world.memory (was number y there).before ≡ true
  given_then number y there given =
      let old = was number y there in
      frames number old.before old.there
      (sym (given_as e old.before y number old.coroutine old.block old.start u.world.memory) ∙ given)

  pub rows_keep : ((number : ℕ) (x : Instance) → slice_get t.instances number ≡ Some x
      → is_given t.world.memory x ≡ true → IsKeptIn e x number None (t.top ∷ t.below)
      → IsOver z number x ⊎ IsKeptIn e x number None (u.top ∷ u.below))
      → Each (IsRenewed z u.instances) (u.top ∷ u.below) → KeepersIn e z u
  rows_keep kept renewed = record {
    each = λ number y there given.
        let old = was number y there in
        by number y old (given_then number y there given) (h.each number old.before old.there
        (given_then number y there given));
    replaced = λ number later y w there after lt given began.
        let old = was number y there in
        let next = was later w after in
        over_on z t.instances number y old
        (h.replaced number later old.before next.before old.there next.there lt (given_then number y there given)
        ((λ j. (sym next.block j == sym old.block j) && (sym next.start j == sym old.start j)) ∙ began));
    renewed = renewed;
  }
    where
      as_now : (number : ℕ) (y : Instance) (old : WasBefore t.instances number y)
          → IsOver z number old.before ⊎ IsKeptIn e old.before number None (u.top ∷ u.below)
          → IsOver z number y ⊎ IsKeptIn e y number None (u.top ∷ u.below)
      as_now number y old (inl over) = inl (over_on z t.instances number y old over)
      as_now number y old (inr k) =
          inr (kept_as e old.before y number old.coroutine old.block old.start None (u.top ∷ u.below) k)

      by : (number : ℕ) (y : Instance) (old : WasBefore t.instances number y)
          → is_given t.world.memory old.before ≡ true
          → IsOver z number old.before ⊎ IsKeptIn e old.before number None (t.top ∷ t.below)
          → IsOver z number y ⊎ IsKeptIn e y number None (u.top ∷ u.below)
      by number y old given (inl over) = inl (over_on z t.instances number y old over)
      by number y old given (inr k) = as_now number y old (kept number old.before old.there given k)

-- ---- an instruction

module _ (e : Elision) (z t u : State) (at : ℕ) (i : Instr) (k : StandsAtInstr e t at i) (m : MovesBy e t u i)
    (calm : (v : Option ℕ) → is_destroy_of v i ≡ false)
    (stops : is_stop i ≡ true → (function_in e t.top.func).coroutine ≡ true)
    (never : is_stop i ≡ true → (number : ℕ) (x : Instance) → slice_get t.instances number ≡ Some x
    → is_given t.world.memory x ≡ true → IsDestroying e x number t.top → ⊥) (h : KeepersIn e z t) where
  head : u.top.has_left ≡ t.top.has_left → KeepsHead t.top u.top
  head left = record {
    func = m.func;
    block = m.block;
    result = m.result;
    mode = m.mode;
    instance = m.instance;
    has_left = left;
  }

  same_call : IsSameCall t.top u.top
  same_call = record {
    func = m.func;
    result = m.result;
    instance = λ number is. m.instance ∙ is;
    mode = λ frame is. m.mode ∙ is;
  }

  top_keeps : (x : Instance) (number : ℕ) → HasKeeper e x number t.top None → HasKeeper e x number u.top None
  top_keeps x number c = by m.left
    where
      plain : (function_in e t.top.func).coroutine ≡ false
      plain = c.site.plain

      by : (u.top.has_left ≡ t.top.has_left) ⊎ (is_stop i ≡ true) → HasKeeper e x number u.top None
      by (inl left) =
          keeper_moves e t.top u.top (record { block = t.top.block; at = at })
          (record { block = t.top.block; at = at + 1 }) m.func
          (instr_moves e t.top u.top at i k.there k.stands plain (k.handles plain) (head left) m.next m.values m.slots)
          (k.handles plain).destroyed x number c
          (where_none (is_destroy_of (result_of c.instr)) (function_in e t.top.func)
          (record { block = t.top.block; at = at })
          (ap (passes (is_destroy_of (result_of c.instr))) (instr_found (function_in e t.top.func)
          (record { block = t.top.block; at = at }) i k.there) ∙ calm (result_of c.instr)))
          None
      by (inr stop) = absurd (not_both (function_in e t.top.func).coroutine (stops stop) plain)

  pub moved_keep : KeepersIn e z u
  moved_keep =
      rows_keep e z t u m.instances m.frames.given h
      (λ number x there given c.
      inr (subst (λ (rows : List Activation). IsKeptIn e x number None (u.top ∷ rows)) (sym m.below)
      (kept_top e x number t.top u.top t.below (top_keeps x number) same_call (destroys number x there given) c)))
      (subst (λ (rows : List Activation). Each (IsRenewed z u.instances) (u.top ∷ rows)) (sym m.below) (
        renewed_on z t.instances u.instances m.instances t.top u.top m.mode m.instance h.renewed.0,
        all_renewed z t.instances u.instances m.instances t.below h.renewed.1,
      ))
    where
      destroys : (number : ℕ) (x : Instance) → slice_get t.instances number ≡ Some x
          → is_given t.world.memory x ≡ true → IsDestroying e x number t.top → IsDestroying e x number u.top
      destroys number x there given d = by m.left
        where
          by : (u.top.has_left ≡ t.top.has_left) ⊎ (is_stop i ≡ true) → IsDestroying e x number u.top
          by (inl left) = destroys_on e [] x number t.top u.top (head left) d
          by (inr stop) = absurd (never stop number x there given d)
