-- What is asked of slots that are made anew follows from the rules of functions and from tables of addresses.
use Rattle.std.proofs.Common.{◌≡◌, ◌⊎◌, ⊎_elim, inl, inr, ℕ, zero, suc, ◌+◌, Bool, true, false, List, [], ◌∷◌, ◌++◌}
use Rattle.std.proofs.Common.{Option, Some, refl, sym, ap, ◌∙◌, subst, length}
use Rattle.std.proofs.lemmas.List.Folds.{list_any-append}
use Rattle.std.specs.Prelude.{IsTrue, flat_map, slice_get, ◌==◌, ◌||◌, if◌then◌else◌}
use Rattle.pass_proofs.specs.frame_classes.Classes.{IsOf}
use Rattle.pass_proofs.specs.frame_classes.declared.class.SlotClass.{SlotClass}
use Rattle.pass_proofs.proofs.ir_laws.facts.Members.{at_each}
use Rattle.pass_proofs.proofs.ir_laws.facts.Truth.{and_second, holds}
use Rattle.pass_proofs.proofs.ir_laws.paths.renamed.Uses.{stands_in}
use Rattle.pass_proofs.specs.ir_model.Layout.{size_of}
use Rattle.pass_proofs.specs.ir_model.Names.{no_function, position_of}
use Rattle.pass_proofs.specs.ir_model.Ty.{Ty}
use Rattle.pass_proofs.specs.ir_model.declared.instr.Case.{Case}
use Rattle.pass_proofs.specs.ir_model.declared.instr.Instr.{Instr}
use Rattle.pass_proofs.specs.ir_model.declared.instr.Terminator.{Terminator}
use Rattle.pass_proofs.specs.ir_model.declared.module.Block.{Block}
use Rattle.pass_proofs.specs.ir_model.declared.module.Function.{Function}
use Rattle.pass_proofs.specs.ir_model.declared.module.Module.{Module}
use Rattle.pass_proofs.specs.ir_model.declared.operand.Arg.{Arg}
use Rattle.pass_proofs.specs.ir_model.declared.operand.Callee.{Callee}
use Rattle.pass_proofs.specs.ir_model.declared.operand.Intrinsic.{Intrinsic}
use Rattle.pass_proofs.specs.ir_model.declared.operand.Operand.{Operand}
use Rattle.pass_proofs.proofs.ir_paths.Search.{either, eq_from, or_left, or_right}
use Rattle.pass_proofs.specs.ir_paths.Facts.{facts_of}
use Rattle.pass_proofs.specs.ir_paths.Slots.{addresses_of, addresses_within, allocas_of, geps_from, has_name, is_gep, local_of}
use Rattle.pass_proofs.specs.ir_paths.Windows.{call_result, end_block, instr_at, instr_in, is_call_of, points_where}
use Rattle.pass_proofs.specs.ir_paths.declared.point.Point.{Point}
use Rattle.pass_proofs.proofs.pass_kept_proof.Read.{listed_by_name}
use Rattle.pass_proofs.specs.pass_kept_proof.Crossing.{is_param}
use Rattle.pass_proofs.specs.pass_kept_proof.Handed.{HasPlainNames}
use Rattle.pass_proofs.specs.pass_kept_proof.Needed.{given_by, phis_give}
use Rattle.pass_proofs.specs.pass_kept_proof.SuspendRules.{IsCallAt, KeepsSuspendRules}
use Rattle.pass_proofs.proofs.early.save_simulation.Suspending.{fetch_at}
use Rattle.pass_renewed_meaning.specs.pass_renewed_proof.Entering.{AreAligned}
use Rattle.pass_renewed_meaning.specs.pass_renewed_proof.SlotRules.{AreSteady, IsAddressOf, IsMadeOnce, IsMarkerAt, Itself, KeepsSlots, Part}
use Rattle.pass_renewed_meaning.specs.pass_renewed_proof.Steps.{given_at}
use Rattle.pass_proofs.proofs.rule_laws.rules.counted.PartFacts.{block_passes}
use Rattle.pass_proofs.proofs.rule_laws.rules.source_rules.Slots.{alloca_of}
use Rattle.pass_proofs.proofs.rule_laws.rules.sources.Places.{instr_there, point}
use Rattle.pass_proofs.specs.rule_laws.rules.function_rules.Kept.{KeepsFunctionRules}
use Rattle.pass_proofs.specs.rule_locals.Extents.{breaks_extents, is_aligned, is_sized}
use Rattle.pass_proofs.specs.rule_locals.Instrs.{on_instr}
use Rattle.pass_proofs.specs.rule_names.declared.stage.Stage.{Stage}
use Rattle.pass_proofs.specs.rule_slots.Closed.{IsClosed}
use Rattle.pass_proofs.specs.rule_windows.Outside.{ends_with_it}
use Rattle.pass_proofs.specs.rule_windows.Sets.{IsAfterEnd}
use Rattle.run_accepted.proofs.Once.{gives_no_param, given_alone, made_once, no_phi_gives}
use Rattle.pass_renewed_meaning.specs.run_hooks.Away.{KeepsPlaceRules}
use Rattle.pass_renewed_meaning.specs.run_hooks.alive.Alive.{IsEnd, IsMarker, IsStart, KeepsAliveRules}
use Rattle.pass_proofs.specs.run_step.Step.{AtInstr, AtTerm, Nowhere, fetch, is_alignment, phis_of}

-- ---- names in lists

has_append : (xs ys : List ℕ) (v : ℕ) → has_name (xs ++ ys) v ≡ (has_name xs v || has_name ys v)
has_append xs ys v = list_any-append (λ u. u == v) xs ys

has_either : (xs ys : List ℕ) (v : ℕ) → has_name (xs ++ ys) v ≡ true → (has_name xs v ≡ true) ⊎ (has_name ys v ≡ true)
has_either xs ys v h = either (has_name xs v) (has_name ys v) (sym (has_append xs ys v) ∙ h)

has_left : (xs ys : List ℕ) (v : ℕ) → has_name xs v ≡ true → has_name (xs ++ ys) v ≡ true
has_left xs ys v h = has_append xs ys v ∙ or_left (has_name xs v) (has_name ys v) h

has_right : (xs ys : List ℕ) (v : ℕ) → has_name ys v ≡ true → has_name (xs ++ ys) v ≡ true
has_right xs ys v h = has_append xs ys v ∙ or_right (has_name xs v) (has_name ys v) h

-- ---- getelementptrs of addresses

abbrev Passes : (ℕ → Bool) → (ℕ → Bool) → Type 0
Passes t u = (v : ℕ) → t v ≡ true → u v ≡ true

-- a getelementptr of a base that passes the test gives the name
pub record IsPartIn (t : ℕ → Bool) (is : List Instr) (v : ℕ) : Type 0 where
  pub at : ℕ
  pub inbounds : Bool
  pub ty : Ty
  pub base : ℕ
  pub indices : List Arg
  pub stands : slice_get is at ≡ Some (Instr.Gep v inbounds ty (Operand.Local base) indices)
  pub passes : t base ≡ true

later_part : (t : ℕ → Bool) (i : Instr) (is : List Instr) (v : ℕ) → IsPartIn t is v → IsPartIn t (i ∷ is) v
later_part t i is v x = record {
  at = suc x.at;
  inbounds = x.inbounds;
  ty = x.ty;
  base = x.base;
  indices = x.indices;
  stands = x.stands;
  passes = x.passes;
}

part_in : (t : ℕ → Bool) (is : List Instr) (v : ℕ) → has_name (geps_from t is) v ≡ true → IsPartIn t is v
part_in t [] v h = absurd (cc)
part_in t (Instr.Gep name inbounds ty (Operand.Local w) indices ∷ is) v h = on (t w) refl h (part_in t is v)
  where
    on : (b : Bool) → t w ≡ b → has_name ((if b then name ∷ [] else []) ++ geps_from t is) v ≡ true
        → (has_name (geps_from t is) v ≡ true → IsPartIn t is v)
        → IsPartIn t (Instr.Gep name inbounds ty (Operand.Local w) indices ∷ is) v
    on false e k rest = later_part t (Instr.Gep name inbounds ty (Operand.Local w) indices) is v (rest k)
    on true e k rest = ⊎_elim (λ same. here same)
        (λ more. later_part t (Instr.Gep name inbounds ty (Operand.Local w) indices) is v (rest more))
        (either (name == v) (has_name (geps_from t is) v) k)
      where
        here : (name == v) ≡ true → IsPartIn t (Instr.Gep name inbounds ty (Operand.Local w) indices ∷ is) v
        here same = record {
          at = 0;
          inbounds = inbounds;
          ty = ty;
          base = w;
          indices = indices;
          stands = ap (λ (n : ℕ). Some (Instr.Gep n inbounds ty (Operand.Local w) indices)) (eq_from name v same);
          passes = e;
        }
part_in t (i ∷ is) v h = later_part t i is v (part_in t is v h)

-- more bases give no less
named_more : (b : Bool) (name v : ℕ) (xs : List ℕ) → has_name xs v ≡ true
    → has_name ((if b then name ∷ [] else []) ++ xs) v ≡ true
named_more true name v xs h = or_right (name == v) (has_name xs v) h
named_more false name v xs h = h

geps_more : (t u : ℕ → Bool) → Passes t u → (is : List Instr) (v : ℕ) → has_name (geps_from t is) v ≡ true
    → has_name (geps_from u is) v ≡ true
geps_more t u more [] v h = h
geps_more t u more (Instr.Gep name inbounds ty (Operand.Local w) indices ∷ is) v h =
    on (t w) refl h (geps_more t u more is v)
  where
    on : (b : Bool) → t w ≡ b → has_name ((if b then name ∷ [] else []) ++ geps_from t is) v ≡ true
        → (has_name (geps_from t is) v ≡ true → has_name (geps_from u is) v ≡ true)
        → has_name ((if u w then name ∷ [] else []) ++ geps_from u is) v ≡ true
    on false e k rest = named_more (u w) name v (geps_from u is) (rest k)
    on true e k rest = ⊎_elim
        (λ same. ap (λ (b : Bool). has_name ((if b then name ∷ [] else []) ++ geps_from u is) v) (more w e)
        ∙ or_left (name == v) (has_name (geps_from u is) v) same)
        (λ r. named_more (u w) name v (geps_from u is) (rest r)) (either (name == v) (has_name (geps_from t is) v) k)
geps_more t u more (i ∷ is) v h = geps_more t u more is v h

abbrev geps_by : (ℕ → Bool) → List Block → List ℕ
geps_by t bs = flat_map (λ b. geps_from t b.instrs) bs

blocks_more : (t u : ℕ → Bool) → Passes t u → (bs : List Block) (v : ℕ) → has_name (geps_by t bs) v ≡ true
    → has_name (geps_by u bs) v ≡ true
blocks_more t u more [] v h = h
blocks_more t u more (b ∷ bs) v h = on (blocks_more t u more bs v)
    (has_either (geps_from t b.instrs) (geps_by t bs) v h)
  where
    on : (has_name (geps_by t bs) v ≡ true → has_name (geps_by u bs) v ≡ true)
        → (has_name (geps_from t b.instrs) v ≡ true) ⊎ (has_name (geps_by t bs) v ≡ true)
        → has_name (geps_from u b.instrs ++ geps_by u bs) v ≡ true
    on rest (inl e) = has_left (geps_from u b.instrs) (geps_by u bs) v (geps_more t u more b.instrs v e)
    on rest (inr e) = has_right (geps_from u b.instrs) (geps_by u bs) v (rest e)

-- the same in a block
pub record IsPart (t : ℕ → Bool) (bs : List Block) (v : ℕ) : Type 0 where
  pub block : ℕ
  pub own : Block
  pub got : slice_get bs block ≡ Some own
  pub part : IsPartIn t own.instrs v

pub part_of : (t : ℕ → Bool) (bs : List Block) (v : ℕ) → has_name (geps_by t bs) v ≡ true → IsPart t bs v
part_of t [] v h = absurd (cc)
part_of t (b ∷ bs) v h = on (part_of t bs v) (has_either (geps_from t b.instrs) (geps_by t bs) v h)
  where
    on : (has_name (geps_by t bs) v ≡ true → IsPart t bs v)
        → (has_name (geps_from t b.instrs) v ≡ true) ⊎ (has_name (geps_by t bs) v ≡ true) → IsPart t (b ∷ bs) v
    on rest (inl e) = record { block = 0; own = b; got = refl; part = part_in t b.instrs v e }
    on rest (inr e) = let x = rest e in record { block = suc x.block; own = x.own; got = x.got; part = x.part }

next_more : (f : Function) (a : ℕ) (t u : ℕ → Bool) → Passes t u → (v : ℕ)
    → ((a == v) || has_name (geps_by t f.blocks) v) ≡ true → ((a == v) || has_name (geps_by u f.blocks) v) ≡ true
next_more f a t u more v h = on (either (a == v) (has_name (geps_by t f.blocks) v) h)
  where
    on : ((a == v) ≡ true) ⊎ (has_name (geps_by t f.blocks) v ≡ true)
        → ((a == v) || has_name (geps_by u f.blocks) v) ≡ true
    on (inl e) = or_left (a == v) (has_name (geps_by u f.blocks) v) e
    on (inr e) = or_right (a == v) (has_name (geps_by u f.blocks) v) (blocks_more t u more f.blocks v e)

first_more : (a v : ℕ) (b : Bool) → ((a == v) || false) ≡ true → ((a == v) || b) ≡ true
first_more a v b h = on (either (a == v) false h)
  where
    on : ((a == v) ≡ true) ⊎ (false ≡ true) → ((a == v) || b) ≡ true
    on (inl e) = or_left (a == v) b e
    on (inr none) = absurd (cc)

within_more : (n : ℕ) (f : Function) (a : ℕ)
    → Passes (has_name (addresses_within n f a)) (has_name (addresses_within (suc n) f a))
within_more zero f a v h = first_more a v (has_name (geps_by (has_name (addresses_within 0 f a)) f.blocks) v) h
within_more (suc n) f a v h = next_more f a (has_name (addresses_within n f a))
    (has_name (addresses_within (suc n) f a)) (within_more n f a) v h

part_more : (t u : ℕ → Bool) → Passes t u → (bs : List Block) (v : ℕ) → IsPart t bs v → IsPart u bs v
part_more t u more bs v x = record {
  block = x.block;
  own = x.own;
  got = x.got;
  part = record {
    at = x.part.at;
    inbounds = x.part.inbounds;
    ty = x.part.ty;
    base = x.part.base;
    indices = x.part.indices;
    stands = x.part.stands;
    passes = more x.part.base x.part.passes;
  };
}

-- an address is the alloca's, or given by a getelementptr of an address
own_or_none : (a v : ℕ) → ((a == v) || false) ≡ true → v ≡ a
own_or_none a v h = on (either (a == v) false h)
  where
    on : ((a == v) ≡ true) ⊎ (false ≡ true) → v ≡ a
    on (inl e) = sym (eq_from a v e)
    on (inr none) = absurd (cc)

next_is : (f : Function) (a : ℕ) (t u : ℕ → Bool) → Passes t u → (v : ℕ)
    → ((a == v) || has_name (geps_by t f.blocks) v) ≡ true → (v ≡ a) ⊎ IsPart u f.blocks v
next_is f a t u more v h = on (either (a == v) (has_name (geps_by t f.blocks) v) h)
  where
    on : ((a == v) ≡ true) ⊎ (has_name (geps_by t f.blocks) v ≡ true) → (v ≡ a) ⊎ IsPart u f.blocks v
    on (inl e) = inl (sym (eq_from a v e))
    on (inr e) = inr (part_more t u more f.blocks v (part_of t f.blocks v e))

address_is : (n : ℕ) (f : Function) (a v : ℕ) → has_name (addresses_within n f a) v ≡ true
    → (v ≡ a) ⊎ IsPart (has_name (addresses_within n f a)) f.blocks v
address_is zero f a v h = inl (own_or_none a v h)
address_is (suc n) f a v h = next_is f a (has_name (addresses_within n f a)) (has_name (addresses_within (suc n) f a))
    (within_more n f a) v h

-- ---- alignments

bracketed : (a b c d e : Bool) → (a || (b || (c || (d || e)))) ≡ true → (a || b || c || d || e) ≡ true
bracketed true b c d e h = refl
bracketed false true c d e h = refl
bracketed false false true d e h = refl
bracketed false false false true e h = refl
bracketed false false false false e h = h

alignment : (n : ℕ) → is_aligned n ≡ true → is_alignment n ≡ true
alignment n h = bracketed (n == 1) (n == 2) (n == 4) (n == 8) (n == 16) h

-- ---- calls

suspend_gives : (i : Instr) → is_call_of Intrinsic.CoroSuspend i ≡ true → given_by i ≡ call_result i
suspend_gives (Instr.Call r must_tail ty (Callee.Intrinsic Intrinsic.CoroSuspend) args) e = refl
suspend_gives _ e = absurd (cc)

pub begin_ends : (i : Instr) → is_call_of Intrinsic.CoroBegin i ≡ true → ends_with_it i ≡ true
begin_ends i e = or_left (is_call_of Intrinsic.CoroBegin i) _ e

marker_is : (marker : Intrinsic) → (marker ≡ Intrinsic.LifetimeStart) ⊎ (marker ≡ Intrinsic.LifetimeEnd)
    → IsMarker marker
marker_is marker (inl e) = subst IsMarker (sym e) IsStart
marker_is marker (inr e) = subst IsMarker (sym e) IsEnd

-- ---- tables

-- the flagged slots are local ones among the allocas, and the other table has their addresses
pub record HasSlotTables (f : Function) (flags : ℕ → Bool) (roots : ℕ → Option ℕ) : Type 0 where
  pub slots : (a : ℕ) → flags a ≡ true → IsTrue (has_name (allocas_of f) a)
  pub is_local : (a : ℕ) → flags a ≡ true → IsOf f a SlotClass.Local
  pub rooted : (v a : ℕ) → roots v ≡ Some a → (flags a ≡ true) × IsTrue (has_name (addresses_of f a) v)
  pub addresses : (v a : ℕ) → flags a ≡ true → IsTrue (has_name (addresses_of f a) v) → roots v ≡ Some a

-- ---- a function

module _ (m : Module) (k : ℕ) (f : Function) (rules : KeepsFunctionRules m k f) where
  -- a listed alloca is made once
  listed_once : (a : ℕ) → has_name (allocas_of f) a ≡ true → IsMadeOnce f a
  listed_once a h =
      let x = alloca_of f a (listed_by_name (allocas_of f) a h) in
      made_once m k f rules a x.ty x.align x.point.block x.point.at
      (fetch_at f x.point (Instr.Alloca a x.ty x.align) x.stands)

  -- Y4: alignments are
  aligned : (flags : ℕ → Bool) → AreAligned flags f
  aligned flags a at ty align flagged e =
      let i : Instr = Instr.Alloca a ty align in
      let x = stands_in f (point 0 at) i (instr_there f 0 at i e) in
      let y = at_each _ x.block.instrs at i (block_passes (on_instr (breaks_extents Stage.Source m)) k f
      rules.local.extents 0 x.block x.got).instrs x.stands in
      alignment align (and_second (is_sized 1048576 (size_of m ty)) (is_aligned align) (holds _ y.2))

  -- what gives a part of a slot
  module _ (t : ℕ → Bool) (v : ℕ) (x : IsPart t f.blocks v) where
    abbrev gives : Instr
    gives = Instr.Gep v x.part.inbounds x.part.ty (Operand.Local x.part.base) x.part.indices

    abbrev place : Point
    place = point x.block x.part.at

    part_at : instr_at f (point x.block x.part.at)
        ≡ Some (Instr.Gep v x.part.inbounds x.part.ty (Operand.Local x.part.base) x.part.indices)
    part_at = ap (λ (o : Option Block). instr_in o x.part.at) x.got ∙ x.part.stands

    part_no_phi : (block : ℕ) → phis_give v (phis_of (slice_get f.blocks block)) ≡ false
    part_no_phi block = no_phi_gives m k f rules place gives v part_at refl block

    part_no_param : is_param f v ≡ false
    part_no_param = gives_no_param m k f rules place gives v part_at refl

    part_fetched : (block at : ℕ) → given_at (fetch f block at) ≡ Some v
        → fetch f block at ≡ AtInstr (Instr.Gep v x.part.inbounds x.part.ty (Operand.Local x.part.base) x.part.indices)
    part_fetched block at e =
        let same = given_alone m k f rules place gives v part_at refl block at e in
        ap (λ (p : Point). fetch f p.block p.at) same ∙ fetch_at f place gives part_at

    -- no alloca gives it
    part_no_alloca : IsMadeOnce f v → ⊥
    part_no_alloca made =
        let there = fetch_at f place gives part_at in
        let at = made.alone x.block x.part.at (ap given_at there) in
        let both : AtInstr (Instr.Alloca v made.ty made.align) ≡ AtInstr gives = sym made.stands
        ∙ sym (ap (λ (b : ℕ). fetch f b made.at) at.0) ∙ sym (ap (λ (n : ℕ). fetch f x.block n) at.1) ∙ there in
        absurd (cc)

  module _ (flags : ℕ → Bool) (roots : ℕ → Option ℕ) (tables : HasSlotTables f flags roots) where
    root_is : (v a : ℕ) → roots v ≡ Some a → (v ≡ a) ⊎ IsPart (has_name (addresses_of f a)) f.blocks v
    root_is v a e = address_is (length (points_where is_gep f)) f a v (tables.rooted v a e).1

    made : (a : ℕ) → flags a ≡ true → IsMadeOnce f a
    made a e = listed_once a (tables.slots a e)

    given : (v a block at : ℕ) → roots v ≡ Some a → given_at (fetch f block at) ≡ Some v
        → IsAddressOf f roots a v block at
    given v a block at e g = on (root_is v a e)
      where
        on : (v ≡ a) ⊎ IsPart (has_name (addresses_of f a)) f.blocks v → IsAddressOf f roots a v block at
        on (inl same) = Itself same
        on (inr x) = Part x.part.inbounds x.part.ty x.part.base x.part.indices
            (part_fetched (has_name (addresses_of f a)) v x block at g)
            (tables.addresses x.part.base a (tables.rooted v a e).0 x.part.passes)

    no_phi : (v a block : ℕ) → roots v ≡ Some a → phis_give v (phis_of (slice_get f.blocks block)) ≡ false
    no_phi v a block e = ⊎_elim
        (λ same. subst (λ (n : ℕ). phis_give n (phis_of (slice_get f.blocks block)) ≡ false) (sym same)
        ((made a (tables.rooted v a e).0).no_phi block))
        (λ x. part_no_phi (has_name (addresses_of f a)) v x block) (root_is v a e)

    no_param : (v a : ℕ) → roots v ≡ Some a → is_param f v ≡ false
    no_param v a e = ⊎_elim
        (λ same. subst (λ (n : ℕ). is_param f n ≡ false) (sym same) (made a (tables.rooted v a e).0).no_param)
        (λ x. part_no_param (has_name (addresses_of f a)) v x) (root_is v a e)

    module _ (alive : KeepsAliveRules f (facts_of f).ramp_slots) where
      marked : (marker : Intrinsic) → IsMarker marker → (v a : ℕ) (p : Point) → IsMarkerAt f marker v p
          → roots v ≡ Some a → v ≡ a
      marked marker is v a p x e =
          let y = alive.marked marker is p x.instr x.stands x.is in
          let both : Operand.Local y.alloca ≡ Operand.Local v = sym y.takes ∙ x.takes in
          let same : y.alloca ≡ v = cc in
          ⊎_elim (λ own. own)
          (λ z. absurd (part_no_alloca (has_name (addresses_of f a)) v z (subst (IsMadeOnce f) same y.made)))
          (root_is v a e)

      unmarked : (marker : Intrinsic) → IsMarker marker → (a : ℕ) (p : Point) → flags a ≡ true
          → IsMarkerAt f marker a p → IsClosed f p → ⊥
      unmarked marker is a p e x shut = alive.closed marker is a p x shut (made a e) (tables.is_local a e).0

      module _ (places : KeepsPlaceRules m f) where
        default : (s : Point) → IsCallAt Intrinsic.CoroSuspend f s → (arg : Arg) (label : ℕ) (cases : List Case)
            → fetch f s.block (s.at + 1) ≡ AtTerm (Terminator.Switch arg label cases)
            → (position_of f label ≡ end_block f) × (given_at (fetch f s.block s.at) ≡ local_of arg.value)
        default s c arg label cases e =
            let x = places.stops s c in
            let both : AtTerm (Terminator.Switch x.arg x.default x.cases) ≡ AtTerm (Terminator.Switch arg label cases)
            = sym x.stands ∙ e in
            let same_label : x.default ≡ label = cc in
            let same_arg : x.arg ≡ arg = cc in
            let r = x.result c.instr c.stands in (
              ap (position_of f) (sym same_label) ∙ x.end,
              ap given_at c.stands ∙ suspend_gives c.instr c.is ∙ r.1
                  ∙ ap local_of (sym r.2 ∙ ap (λ (z : Arg). z.value) same_arg),
            )

        pub slots_kept : KeepsSuspendRules f → HasPlainNames f
            → ((p : Point) → IsAfterEnd f p → IsCallAt Intrinsic.CoroBegin f p → ⊥)
            → ((name block at : ℕ) (inbounds : Bool) (ty : Ty) (base : Operand) (indices : List Arg)
            → fetch f block at ≡ AtInstr (Instr.Gep name inbounds ty base indices) → AreSteady m ty indices)
            → KeepsSlots m f flags roots
        slots_kept suspends names no_begin steady = record {
          made = λ a e. made a e;
          aligned = aligned flags;
          is_local = λ a e. tables.is_local a e;
          rooted = λ v a e. tables.rooted v a e;
          addresses = λ v a e named. tables.addresses v a e named;
          given = λ v a block at e g. given v a block at e g;
          no_phi = λ v a block e. no_phi v a block e;
          no_param = λ v a e. no_param v a e;
          markers = λ marker v a p is x e. marked marker (marker_is marker is) v a p x e;
          open_markers = λ marker a p is e x shut. unmarked marker (marker_is marker is) a p e x shut;
          indices = λ name block at inbounds ty base indices e. steady name block at inbounds ty base indices e;
          entry = λ block at label h same. alive.entry block at label h same;
          default = λ s c arg label cases e. default s c arg label cases e;
          returns = λ p arg e r. alive.returns p arg e r;
          no_begin = λ p a c. no_begin p a c;
          no_save = λ p a c. alive.no_save p a c;
          no_suspend = λ p a c. places.no_suspend p a c;
          suspends = suspends;
          names = names;
        }

-- where there is no function
pub no_slots : (m : Module) (flags : ℕ → Bool) (roots : ℕ → Option ℕ) → ((a : ℕ) → flags a ≡ true → ⊥)
    → ((v a : ℕ) → roots v ≡ Some a → ⊥) → KeepsSuspendRules no_function → HasPlainNames no_function
    → KeepsSlots m no_function flags roots
no_slots m flags roots no_flag no_root suspends names = record {
  made = λ a e. absurd (no_flag a e);
  aligned = λ a at ty align flagged e. absurd (no_flag a flagged);
  is_local = λ a e. absurd (no_flag a e);
  rooted = λ v a e. absurd (no_root v a e);
  addresses = λ v a e named. absurd (no_flag a e);
  given = λ v a block at e g. absurd (no_root v a e);
  no_phi = λ v a block e. absurd (no_root v a e);
  no_param = λ v a e. absurd (no_root v a e);
  markers = λ marker v a p is x e. absurd (no_root v a e);
  open_markers = λ marker a p is e x shut. no_flag a e;
  indices = λ name block at inbounds ty base indices e.
      let none : Nowhere ≡ AtInstr (Instr.Gep name inbounds ty base indices) = e in absurd (cc);
  entry = λ block at label h same. h;
  default = λ s c arg label cases e. let none : Nowhere ≡ AtInstr c.instr = c.stands in absurd (cc);
  returns = λ p arg e r. let none : Nowhere ≡ AtTerm (Terminator.Ret arg) = e in absurd (cc);
  no_begin = λ p a c. let none : Nowhere ≡ AtInstr c.instr = c.stands in absurd (cc);
  no_save = λ p a c. let none : Nowhere ≡ AtInstr c.instr = c.stands in absurd (cc);
  no_suspend = λ p a c. let none : Nowhere ≡ AtInstr c.instr = c.stands in absurd (cc);
  suspends = suspends;
  names = names;
}
