-- One activation keeps its slots, and the addresses that their names have.
use Rattle.std.proofs.Common.{◌≡◌, ◌≢◌, inl, inr, ◌<◌, ◌∙◌, ◌+◌, ℕ, zero, suc, Bool, true, false, List, ◌∷◌, length, Option, Some, ap, refl, sym, subst, arith}
use Rattle.std.specs.Prelude.{slice_get}
use Rattle.pass_elide_proof.proofs.Facts.{not_both}
use Rattle.pass_elide_proof.proofs.PhiValues.{each_as, value_here}
use Rattle.pass_elide_proof.specs.Places.{instrs_of}
use Rattle.pass_elide_runs.specs.Slots.{HasItsSlots, HasSlotOf, IsAllocaAt, IsSlotOf, NamesAllocas}
use Rattle.pass_elide_proof.proofs.pass_proofs.ir_laws.facts.Lists.{get_within}
use Rattle.pass_elide_proof.proofs.pass_proofs.run_laws.transfer.Sets.{set_elsewhere}
use Rattle.pass_elide_proof.specs.pass_proofs.ir_model.Names.{function_at, position_of}
use Rattle.pass_elide_proof.specs.pass_proofs.ir_model.Ty.{Ty}
use Rattle.pass_elide_proof.specs.pass_proofs.ir_model.declared.instr.Instr.{Instr}
use Rattle.pass_elide_proof.specs.pass_proofs.ir_model.declared.module.Function.{Function}
use Rattle.pass_elide_proof.specs.pass_proofs.ir_model.declared.module.Module.{Module}
use Rattle.pass_elide_proof.specs.pass_proofs.ir_parts.Contents.{result_of}
use Rattle.pass_elide_proof.specs.pass_proofs.run_laws.changed.Changed.{Each}
use Rattle.pass_elide_proof.specs.pass_proofs.run_source.declared.state.Activation.{Activation}
use Rattle.pass_elide_proof.specs.pass_proofs.run_source.declared.state.Mode.{Mode}
use Rattle.pass_elide_proof.specs.pass_proofs.run_step.Effects.{is_alloca}
use Rattle.pass_elide_proof.specs.pass_proofs.run_step.Values.{Env, pointer_to, value_in, with_value}
use Rattle.pass_elide_proof.specs.pass_proofs.run_step.declared.world.Slot.{Slot}

same_instr : (i j : Instr) → Some i ≡ Some j → i ≡ j
same_instr i j h = cc

same_name : (a b : ℕ) (ty t : Ty) (align n : ℕ) → Instr.Alloca a ty align ≡ Instr.Alloca b t n → a ≡ b
same_name a b ty t align n h = cc

less_or : (place at : ℕ) → place < at + 1 → (place ≡ at → ⊥) → place < at
less_or place at lt ne = by lt ne
  where
    by : place < at + 1 → place ≢ at → place < at
    by lt ne = omega (arith, lt, ne)

-- before, at or behind a place
pub data Stands (place at : ℕ) : Type 0 where
  Before : place < at → Stands place at
  Here : place ≡ at → Stands place at
  Behind : at < place → Stands place at

pub stands : (place at : ℕ) → Stands place at
stands zero zero = Stands.Here refl
stands zero (suc at) = Stands.Before (omega arith)
stands (suc place) zero = Stands.Behind (omega arith)
stands (suc place) (suc at) = on (stands place at)
  where
    on : Stands place at → Stands (suc place) (suc at)
    on (Stands.Before lt) = Stands.Before (omega (arith, lt))
    on (Stands.Here is) = Stands.Here (ap suc is)
    on (Stands.Behind lt) = Stands.Behind (omega (arith, lt))

module _ (m : Module) (a : Activation) where
  abbrev f : Function
  f = function_at m a.func

  -- names of allocas that have been passed keep their values
  abbrev pub KeepsNames : Env → Type 0
  KeepsNames values =
      NamesAllocas f → (place name : ℕ) → IsAllocaAt f place name → (a.block ≡ 0 → place < a.at)
      → value_in values name ≡ value_in a.values name

  slot_kept : (values : Env) (block at : ℕ)
      → ((place : ℕ) → (a.block ≡ 0 → place < a.at) → block ≡ 0 → place < at) → KeepsNames values → (z : Slot)
      → IsSlotOf f a.values a.block a.at z → IsSlotOf f values block at z
  slot_kept values block at passing same z h = record {
    place = h.place;
    alloca = h.alloca;
    passed = passing h.place h.passed;
    address = λ names. same names h.place z.alloca h.alloca h.passed ∙ h.address names;
  }

  pub slots_kept : (values : Env) (block at : ℕ)
      → ((place : ℕ) → (a.block ≡ 0 → place < a.at) → block ≡ 0 → place < at) → KeepsNames values → (zs : List Slot)
      → Each (IsSlotOf f a.values a.block a.at) zs → Each (IsSlotOf f values block at) zs
  slots_kept values block at passing same zs h =
      each_as (IsSlotOf f a.values a.block a.at) (IsSlotOf f values block at) (slot_kept values block at passing same)
      zs h

  -- ---- behind an instruction that is no alloca

  module _ (i : Instr) (there : slice_get (instrs_of f a.block) a.at ≡ Some i) where
    here_alloca : (place name : ℕ) → IsAllocaAt f place name → a.block ≡ 0 → place ≡ a.at → is_alloca i ≡ true
    here_alloca place name al block is =
        ap is_alloca
        (same_instr i (Instr.Alloca name al.ty al.align)
        (sym there
        ∙ ((λ j. slice_get (instrs_of f (block j)) (sym is j)) ∙ al.there)))

    pub sets_none : is_alloca i ≡ false → (values : Env)
        → ((v : ℕ) → (result_of i ≡ Some v → ⊥) → value_in values v ≡ value_in a.values v) → KeepsNames values
    sets_none other values keeps names place name al passed =
        keeps name (λ gives.
        let one = names.once place name a.block a.at i al there gives in
        not_both (is_alloca i) (here_alloca place name al one.0 (sym one.1)) other)

    pub further : is_alloca i ≡ false → (values : Env) (instance : Option ℕ) (left : Bool)
        → ((v : ℕ) → (result_of i ≡ Some v → ⊥) → value_in values v ≡ value_in a.values v) → HasItsSlots m a
        → HasItsSlots m (record a { at = a.at + 1; values = values; instance = instance; has_left = left })
    further other values instance left keeps h = record {
      own = slots_kept values a.block (a.at + 1) (λ place old first. let lt = old first in omega (arith, lt))
          (sets_none other values keeps) a.slots h.own;
      made = λ place name al passed.
          h.made place name al (λ first.
          less_or place a.at (passed first) (λ is.
          not_both (is_alloca i) (here_alloca place name al first is) other));
      resumed = h.resumed;
      entering = h.entering;
    }

  -- with other values
  pub with_values : (values : Env) → KeepsNames values → HasItsSlots m a → HasItsSlots m (record a { values = values })
  with_values values keeps h = record {
    own = slots_kept values a.block a.at (λ place old first. old first) keeps a.slots h.own;
    made = h.made;
    resumed = h.resumed;
    entering = h.entering;
  }

  -- ---- over an edge

  pub over : (block : ℕ) (values : Env) (left : Bool) → (block ≡ 0 → ⊥)
      → (a.block ≡ 0 → a.at ≡ length (instrs_of f 0)) → KeepsNames values → HasItsSlots m a
      → HasItsSlots m (record a { block = block; at = 0; values = values; has_left = left })
  over block values left out last keeps h = record {
    own = slots_kept values block 0 (λ place old first. absurd (out first)) keeps a.slots h.own;
    made = λ place name al passed.
        h.made place name al (λ first.
        let lt = get_within (instrs_of f 0) place (Instr.Alloca name al.ty al.align) al.there in
        let end = last first in
        omega (arith, lt, end));
    resumed = λ is first. out first;
    entering = h.entering;
  }

  -- ---- with a new slot

  module _ (slot : Slot) (ty : Ty) (align : ℕ)
      (there : slice_get (instrs_of f a.block) a.at ≡ Some (Instr.Alloca slot.alloca ty align)) (entry : a.block ≡ 0)
      (vs : Env) (is : vs ≡ with_value a.values slot.alloca (pointer_to slot.block))
      (room : length a.values ≡ length f.names) where
    abbrev own_alloca : IsAllocaAt f a.at slot.alloca
    own_alloca = record {
      ty = ty;
      align = align;
      there = ap (λ (b : ℕ). slice_get (instrs_of f b) a.at) (sym entry) ∙ there;
    }

    new_value : NamesAllocas f → value_in vs slot.alloca ≡ pointer_to slot.block
    new_value names =
        ap (λ (env : Env). value_in env slot.alloca) is
        ∙ value_here a.values slot.alloca (pointer_to slot.block)
        (subst (λ (n : ℕ). slot.alloca < n) (sym room) (names.low a.at slot.alloca own_alloca))

    old_value : NamesAllocas f → (place name : ℕ) → IsAllocaAt f place name → place < a.at
        → value_in vs name ≡ value_in a.values name
    old_value names place name al lt =
        ap (λ (env : Env). value_in env name) is
        ∙ set_elsewhere a.values slot.alloca name (pointer_to slot.block) (λ same. apart same)
      where
        apart : slot.alloca ≡ name → ⊥
        apart same =
            let one = names.once place name 0 a.at (Instr.Alloca slot.alloca ty align) al own_alloca.there
            (ap Some same)
            in
            let at = one.1 in
            omega (arith, at, lt)

    pub grown : (ws : Env)
        → (NamesAllocas f → (place name : ℕ) → IsAllocaAt f place name → value_in ws name ≡ value_in vs name)
        → (block at : ℕ) (mode : Mode) → (block ≡ 0 → a.at < at)
        → ((place name : ℕ) → IsAllocaAt f place name → (block ≡ 0 → place < at) → a.at < place → ⊥)
        → (mode ≡ Mode.Resumed → block ≡ 0 → ⊥)
        → ((from label : ℕ) → mode ≡ Mode.Entering from label → position_of f label ≡ 0 → ⊥) → HasItsSlots m a
        → HasItsSlots m (record a {
          block = block;
          at = at;
          values = ws;
          slots = slot ∷ a.slots;
          mode = mode;
        })
    grown ws same block at mode reach none resumed entering h = record {
      own = (
        record {
          place = a.at;
          alloca = own_alloca;
          passed = reach;
          address = λ names. same names a.at slot.alloca own_alloca ∙ new_value names;
        },
        slots_kept ws block at (λ place old first.
            let lt = old entry in let further = reach first in omega (arith, lt, further))
            (λ names place name al old. same names place name al ∙ old_value names place name al (old entry)) a.slots
            h.own,
      );
      made = λ place name al passed. by place name al passed (stands place a.at);
      resumed = resumed;
      entering = entering;
    }
      where
        by : (place name : ℕ) → IsAllocaAt f place name → (block ≡ 0 → place < at) → Stands place a.at
            → HasSlotOf (slot ∷ a.slots) name
        by place name al passed (Stands.Before lt) = inr (h.made place name al (λ first. lt))
        by place name al passed (Stands.Here here) =
            inl (same_name slot.alloca name ty al.ty align al.align
            (same_instr (Instr.Alloca slot.alloca ty align) (Instr.Alloca name al.ty al.align)
            (sym own_alloca.there ∙ (ap (slice_get (instrs_of f 0)) (sym here) ∙ al.there))))
        by place name al passed (Stands.Behind lt) = absurd (none place name al passed lt)
