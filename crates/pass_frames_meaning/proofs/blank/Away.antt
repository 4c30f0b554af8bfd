-- In a state that is related no operand of an access leads into a block that is hidden.
use Rattle.std.proofs.Common.{◌≡◌, ◌≢◌, ◌⊎◌, ⊎_elim, inl, inr, ℕ, zero, suc, ◌<◌, Bool, true, false, ◌&&◌, List, []}
use Rattle.std.proofs.Common.{◌∷◌, length, Option, Some, None}
use Rattle.std.proofs.Common.{refl, sym, ap, ◌∙◌, subst}
use Rattle.std.proofs.lemmas.Bool.{eqb-true}
use Rattle.std.specs.List.{Contains}
use Rattle.std.specs.Prelude.{◌==◌}
use Rattle.pass_frames_proof.specs.flow_solver.Paths.{IsListed}
use Rattle.pass_frames_proof.specs.ir_base.declared.outcome.Outcome.{Outcome}
use Rattle.pass_frames_proof.proofs.ir_laws.facts.Members.{at_each}
use Rattle.pass_frames_proof.proofs.ir_laws.facts.Truth.{itself}
use Rattle.pass_frames_proof.proofs.ir_laws.paths.renamed.Uses.{stands_in}
use Rattle.pass_frames_proof.specs.ir_laws.facts.expanded.Tokens.{IsNamed}
use Rattle.pass_frames_proof.specs.ir_model.Names.{function_at}
use Rattle.pass_frames_proof.specs.ir_model.Ty.{Ty}
use Rattle.pass_frames_proof.specs.ir_model.declared.instr.Instr.{Instr}
use Rattle.pass_frames_proof.specs.ir_model.declared.module.Function.{Function}
use Rattle.pass_frames_proof.specs.ir_model.declared.module.Module.{Module}
use Rattle.pass_frames_proof.specs.ir_model.declared.operand.Operand.{Operand}
use Rattle.pass_frames_proof.specs.ir_parts.Contents.{instr_operands}
use Rattle.pass_frames_proof.specs.pass_cells.Cells.{fetches_of}
use Rattle.pass_frames_proof.specs.pass_cells.Kept.{entry}
use Rattle.pass_frames_proof.specs.pass_copies.Uses.{is_access}
use Rattle.pass_frames_proof.specs.pass_copies.declared.slot.EarlySlot.{EarlySlot}
use Rattle.pass_frames_proof.specs.pass_fetch.Fetching.{fetch_of}
use Rattle.pass_frames_proof.specs.pass_fetch.declared.fetch.Fetch.{Fetch}
use Rattle.pass_frames_meaning.proofs.ends.Seen.{not_kept, same_names}
use Rattle.pass_frames_meaning.proofs.known.Operands.{behind, of_each}
use Rattle.pass_frames_meaning.proofs.led.Values.{led_to}
use Rattle.pass_frames_meaning.proofs.others.Returns.{no_return}
use Rattle.pass_frames_meaning.specs.Blank.{AreUsesEarly}
use Rattle.pass_frames_meaning.specs.Known.{IsKnown, KeepsKnown}
use Rattle.pass_frames_meaning.specs.Led.{AreLedWith, IsEnteringAt, IsLed}
use Rattle.pass_frames_meaning.specs.Setting.{KeepsAll, Setting}
use Rattle.pass_frames_proof.proofs.code.Left.{fetch_found}
use Rattle.pass_frames_proof.proofs.followed.Assembly.{other_instance}
use Rattle.pass_frames_proof.proofs.lines.Cells.{contained}
use Rattle.pass_frames_proof.proofs.stepping.Fetch.{coroutine_values, not_returned}
use Rattle.pass_frames_proof.proofs.stepping.Operands.{asked, other_stands, outside_not}
use Rattle.pass_frames_proof.specs.Framings.{IsFraming}
use Rattle.pass_frames_proof.specs.Places.{Framing, copies, edged, offsets, plan}
use Rattle.pass_frames_proof.specs.Related.{AreBuiltOf, AreCellsRight, AreCoroutines, AreOthers, Building, HasCells}
use Rattle.pass_frames_proof.specs.Related.{HasValues}
use Rattle.pass_frames_proof.specs.Related.{IsSlotBy, IsUnplacedSlot, instance_in, is_coroutine}
use Rattle.pass_frames_proof.specs.Stepping.{IsNotEntering, IsSlotOf}
use Rattle.pass_frames_proof.specs.pass_proofs.addresses.rules.Addresses.{lies_in_frame}
use Rattle.pass_frames_proof.proofs.pass_renewed_proof.Listing.{contains_first, contains_more}
use Rattle.pass_frames_proof.proofs.rule_laws.rules.renamed.Uses.{operands_spelt}
use Rattle.pass_frames_proof.proofs.rule_laws.rules.sources.Places.{instr_there, point}
use Rattle.pass_frames_proof.specs.run_framed.Framed.{frame_rights}
use Rattle.pass_frames_proof.specs.run_laws.changed.Changed.{operands_of}
use Rattle.pass_frames_proof.specs.run_laws.memory.Pointers.{Home, IsValue, home_of}
use Rattle.pass_frames_proof.specs.run_memory.Memory.{Rights}
use Rattle.pass_frames_proof.specs.run_memory.declared.pointer.Pointer.{Pointer}
use Rattle.pass_frames_proof.specs.run_memory.declared.pointer.Value.{Value}
use Rattle.pass_frames_proof.specs.run_source.State.{function_of}
use Rattle.pass_frames_proof.specs.run_source.declared.state.Activation.{Activation}
use Rattle.pass_frames_proof.specs.run_source.declared.state.Mode.{Mode}
use Rattle.pass_frames_proof.specs.run_source.declared.state.State.{State}
use Rattle.pass_frames_proof.specs.run_step.Step.{AtInstr, block_of, fetch}
use Rattle.pass_frames_proof.specs.run_step.Values.{operand_value, pointer_to, value_in}
use Rattle.pass_frames_proof.specs.run_step.declared.world.Slot.{Slot}

-- ---- small things

told_lies : (t : List (Option ℕ)) (v d : ℕ) → entry t v ≡ Some d → lies_in_frame t v ≡ true
told_lies [] v d e = absurd (cc)
told_lies (None ∷ t) zero d e = absurd (cc)
told_lies (Some n ∷ t) zero d e = refl
told_lies (o ∷ t) (suc v) d e = told_lies t v d e

other_values : (b : Building) (homes : List Home) (rights : Rights) (t : State) (a c : Activation) (k : Bool)
    → k ≡ false → HasValues b homes rights t a c k → AreOthers homes a c
other_values b homes rights t a c true e h = absurd (cc)
other_values b homes rights t a c false e h = h

pub in_list : {A : Type 0} (xs : List A) (x : A) → IsListed x xs → Contains xs x
in_list [] x l = absurd l
in_list (y ∷ xs) x (inl e) = subst (Contains (y ∷ xs)) (sym e) (contains_first y xs)
in_list (y ∷ xs) x (inr l) = contains_more y xs x (in_list xs x l)

-- a slot that is used before begin has the name, or none
abbrev IsEarlyName : Framing → List EarlySlot → ℕ → Type 0
IsEarlyName x es v = (e : EarlySlot) × IsListed e es × (e.slot ≡ v)

early_or : (x : Framing) (es : List EarlySlot) (v : ℕ)
    → IsEarlyName x es v ⊎ ((e : EarlySlot) → IsListed e es → e.slot ≢ v)
early_or x [] v = inr (λ e l. absurd l)
early_or x (y ∷ es) v = on (y.slot == v) refl (early_or x es v)
  where
    on : (b : Bool) → (y.slot == v) ≡ b → IsEarlyName x es v ⊎ ((e : EarlySlot) → IsListed e es → e.slot ≢ v)
        → IsEarlyName x (y ∷ es) v ⊎ ((e : EarlySlot) → IsListed e (y ∷ es) → e.slot ≢ v)
    on true d more = inl (y, inl refl, eqb-true y.slot v d)
    on false d (inl z) = inl (z.0, inr z.1, z.2)
    on false d (inr none) = inr (λ e l. ⊎_elim
        (λ (same : e ≡ y). λ named.
        let yes : (y.slot == v) ≡ true = ap (λ (n : ℕ). n == v) (ap (λ (z : EarlySlot). z.slot) (sym same) ∙ named)
        ∙ itself v in
        let no : true ≡ false = sym yes ∙ d in absurd (cc))
        (λ (k : IsListed e es). none e k)
        l)

-- ---- the state

module _ (c : Setting) (counts own : ℕ → ℕ → Bool) (all : KeepsAll c) (k : KeepsKnown c counts)
    (uses : AreUsesEarly c) (s t : State) (r : AreBuiltOf c.b s t) (known : IsKnown c counts own s)
    (runs : s.outcome ≡ Outcome.Running) (n : ℕ) (hidden : r.hides n ≡ true) (i : Instr)
    (there : fetch (function_of c.g.given s) s.top.block s.top.at ≡ AtInstr i) (access : is_access i ≡ true) where
  abbrev Away : Value → Type 0
  Away v = block_of v ≡ Some n → ⊥

  seen_away : (b : ℕ) → (home_of r.homes b).is_seen ≡ true → Some b ≡ Some n → ⊥
  seen_away b seen e =
      let same : b ≡ n = cc in
      let yes : (home_of r.homes n).is_seen ≡ true =
      subst (λ (m : ℕ). (home_of r.homes m).is_seen ≡ true) same seen in
      let no : true ≡ false = sym yes ∙ r.hidden n hidden in absurd (cc)

  value_away : (v u : Value) → IsValue r.homes v u → Away v
  value_away Value.Poison u h = λ e. absurd (cc)
  value_away (Value.Int x) u h = λ e. absurd (cc)
  value_away (Value.Ptr (Pointer.At b o)) u h = seen_away b h.0
  value_away (Value.Ptr Pointer.Null) u h = λ e. absurd (cc)
  value_away (Value.Ptr (Pointer.Func f)) u h = λ e. absurd (cc)

  pointer_away : (v : Value) (b : ℕ) → v ≡ pointer_to b → (Some b ≡ Some n → ⊥) → Away v
  pointer_away v b same h = λ e. h (sym (ap block_of same) ∙ e)

  poison_away : (v : Value) → v ≡ Value.Poison → Away v
  poison_away v same e = let no : None ≡ Some n = sym (ap block_of same) ∙ e in absurd (cc)

  others_away : (o : Operand) → ((v : ℕ) → o ≡ Operand.Local v → ⊥) → (ty : Ty)
      → Away (operand_value c.g.given.code s.top.values ty o)
  others_away o none ty = value_away (operand_value c.g.given.code s.top.values ty o) _
      (other_stands r.homes c.g.given.code c.b.given.given.code (same_names c.b c.g all.given)
      (λ m lt. r.globals m (subst (λ (z : Module). m < length z.globals) all.given.code lt)) s.top.values
      t.top.values o
      none ty)

  -- ---- a coroutine

  module _ (coroutine : is_coroutine c.b s.top.func ≡ true) where
    abbrev x : Framing
    x = c.b.framing s.top.func

    is : IsFraming (c.b.framing s.top.func)
    is = all.given.framings s.top.func coroutine

    led : IsLed c.g.given.code counts s
    led = known.led runs

    -- the function has the name
    low : (v : ℕ) → IsListed (Operand.Local v) (instr_operands i) → v < length (edged (c.b.framing s.top.func)).names
    low v listed =
        let z = stands_in (function_of c.g.given s) (point s.top.block s.top.at) i
        (instr_there (function_of c.g.given s) s.top.block s.top.at i there) in
        let each = at_each _ z.block.instrs s.top.at i
        (at_each _ (function_of c.g.given s).blocks s.top.block z.block (all.uses s.top.func).operands z.got)
        z.stands in
        subst (λ (f : Function). v < length f.names) (all.given.coroutines s.top.func coroutine)
        (of_each (IsNamed (length (function_of c.g.given s).names)) (operands_of i) each (Operand.Local v)
        (subst (IsListed (Operand.Local v)) (operands_spelt i) listed))

    -- what makes slots anew is at an alloca
    calm : (mode : Mode) → IsEnteringAt (counts s.top.func)
        (fetch (function_at c.g.given.code s.top.func) s.top.block s.top.at) mode → IsNotEntering mode
    calm Mode.Plain h = tt
    calm Mode.Ramp h = tt
    calm Mode.Resumed h = tt
    calm (Mode.GivenRamp frame) h = tt
    calm (Mode.Entering from label) h =
        let both : AtInstr i ≡ AtInstr (Instr.Alloca h.alloca h.ty h.align) = sym there ∙ h.stands in
        let same : i ≡ Instr.Alloca h.alloca h.ty h.align = cc in
        let no : true ≡ false = sym access ∙ ap is_access same in absurd (cc)

    mode : IsNotEntering s.top.mode
    mode = calm s.top.mode led.entering

    values : AreCoroutines (c.b.framing s.top.func) r.homes (frame_rights c.b.given t.instances) t s.top t.top
    values = coroutine_values c.b r.homes (frame_rights c.b.given t.instances) t s.top t.top
        (is_coroutine c.b s.top.func) coroutine r.top.values

    right : AreCellsRight (c.b.framing s.top.func) r.homes (frame_rights c.b.given t.instances) t.world.memory
        s.top.values t.top
    right = (subst (λ (o : Option ℕ). HasCells x r.homes (frame_rights c.b.given t.instances) t.world.memory
        (instance_in t.instances t.top.instance) s.top t.top o)
        (not_returned x s.top s.top.mode mode (no_return c all s.top.func s.top.block s.top.at i coroutine there))
        values.cells).0

    -- ---- a name of a slot in the frame

    module _ (v d : ℕ) (listed : IsListed (Operand.Local v) (instr_operands i))
        (told : entry (offsets (c.b.framing s.top.func)) v ≡ Some d) where
      behind_away : (number : ℕ) → s.top.instance ≡ Some number → Away (value_in s.top.values v)
      behind_away number e = ⊎_elim
          (λ (none : value_in s.top.values v ≡ Value.Poison). poison_away (value_in s.top.values v) none)
          (λ (z : (slot : Slot) × Contains q.instance.slots slot × (slot.alloca ≡ v)
          × (value_in s.top.values v ≡ pointer_to slot.block)).
          let y = other_instance c.b s t r q.number q.instance q.there in
          let p = y.2.slots z.0 z.1 in
          pointer_away (value_in s.top.values v) z.0.block z.3
          (seen_away z.0.block (ap (λ (h : Home). h.is_seen) p.home)))
          q.leads
        where
          q : IsSlotOf (c.b.framing s.top.func) s v d
          q = behind c counts own all k s known runs coroutine number e v d (low v listed) told

      -- before begin the slot stands in its temporary, and isn't hidden
      early_away : (e : EarlySlot) → Contains (copies (c.b.framing s.top.func)).slots e → e.slot ≡ v
          → s.top.instance ≡ None → Away (value_in s.top.values v)
      early_away e contains named none = ⊎_elim
          (λ (no : value_in s.top.values v ≡ Value.Poison). poison_away (value_in s.top.values v) no)
          (λ (z : (slot : Slot) × Contains s.top.slots slot × (slot.alloca ≡ v)
          × (value_in s.top.values v ≡ pointer_to slot.block)).
          pointer_away (value_in s.top.values v) z.0.block z.3 (shown z.0 z.1 z.2))
          (led_to s.top.slots v (value_in s.top.values v)
          ((subst (λ (o : Option ℕ). AreLedWith (counts s.top.func) (function_at c.g.given.code s.top.func)
          s.instances o
          s.top.slots s.top.values) none led.stack.0).counted v
          (k.counted s.top.func v d coroutine (low v listed) told)))
        where
          shown : (slot : Slot) → Contains s.top.slots slot → slot.alloca ≡ v → Some slot.block ≡ Some n → ⊥
          shown slot c1 same e2 = by (subst (IsSlotBy c.b r.homes r.hides s.top t.top slot)
              (λ j. coroutine j && (ap (lies_in_frame (offsets x)) same ∙ told_lies (offsets x) v d told) j)
              (r.top.slots slot c1))
            where
              by : IsUnplacedSlot (c.b.framing s.top.func) r.homes r.hides t.top slot → ⊥
              by (inl h) = h.1 e contains (named ∙ sym same)
              by (inr h) =
                  let one : slot.block ≡ n = cc in
                  let no : true ≡ false = sym hidden ∙ ap r.hides (sym one) ∙ h.6 in absurd (cc)

      frame_away : (o : Option ℕ) → s.top.instance ≡ o → Away (value_in s.top.values v)
      frame_away (Some number) e = behind_away number e
      frame_away None e = ⊎_elim
          (λ (z : IsEarlyName x (copies x).slots v). early_away z.0 (in_list (copies x).slots z.0 z.1) z.2 e)
          (λ (none : (z : EarlySlot) → IsListed z (copies x).slots → z.slot ≢ v).
          absurd (uses s.top.func s.top.block s.top.at i coroutine there access v d listed told
          (λ z m. none z (contained (copies x).slots z m)) (known.unbegun.stack.0 e)))
          (early_or x (copies x).slots v)

    -- ---- any name

    local_away : (v : ℕ) → IsListed (Operand.Local v) (instr_operands i) → Away (value_in s.top.values v)
    local_away v listed = on (fetch_of (fetches_of (plan x)) (Operand.Local v)) refl
      where
        by : entry (plan x).places v ≡ None → (o : Option ℕ) → entry (offsets x) v ≡ o → Away (value_in s.top.values v)
        by unkept (Some d) told = frame_away v d listed told s.top.instance refl
        by unkept None told = value_away (value_in s.top.values v) (value_in t.top.values v)
            (values.names.each v (asked x s.top s.top.mode v mode) unkept (outside_not x v told))

        on : (o : Option Fetch) → fetch_of (fetches_of (plan x)) (Operand.Local v) ≡ o
            → Away (value_in s.top.values v)
        on (Some f) e =
            let z = fetch_found x is v f e in
            value_away (value_in s.top.values v) _
            (right.values v z.kept (record { number = z.at; told = z.told; there = z.there })).has
        on None e = by (not_kept x is v e) (entry (offsets x) v) refl

  -- ---- any operand

  name_away : (v : ℕ) → IsListed (Operand.Local v) (instr_operands i) → Away (value_in s.top.values v)
  name_away v listed = on (is_coroutine c.b s.top.func) refl
    where
      on : (b : Bool) → is_coroutine c.b s.top.func ≡ b → Away (value_in s.top.values v)
      on true e = local_away e v listed
      on false e = value_away (value_in s.top.values v) (value_in t.top.values v)
          ((other_values c.b r.homes (frame_rights c.b.given t.instances) t s.top t.top (is_coroutine c.b s.top.func) e
          r.top.values).each v)

  pub operand_away : (o : Operand) → IsListed o (instr_operands i) → (ty : Ty)
      → block_of (operand_value c.g.given.code s.top.values ty o) ≡ Some n → ⊥
  operand_away (Operand.Local v) listed ty = name_away v listed
  operand_away (Operand.Global name) listed ty = others_away (Operand.Global name) (λ v e. absurd (cc)) ty
  operand_away (Operand.Number z) listed ty = others_away (Operand.Number z) (λ v e. absurd (cc)) ty
  operand_away Operand.True listed ty = others_away Operand.True (λ v e. absurd (cc)) ty
  operand_away Operand.False listed ty = others_away Operand.False (λ v e. absurd (cc)) ty
  operand_away Operand.Null listed ty = others_away Operand.Null (λ v e. absurd (cc)) ty
  operand_away Operand.None listed ty = others_away Operand.None (λ v e. absurd (cc)) ty
  operand_away Operand.Poison listed ty = others_away Operand.Poison (λ v e. absurd (cc)) ty
