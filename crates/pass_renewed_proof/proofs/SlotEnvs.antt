-- What is handed on stands for what it stood for, once the addresses in slots are moved to the slots that were made anew.
use Rattle.std.proofs.Common.{◌≡◌, ℕ, zero, suc, ◌⊎◌, inl, inr, Bool, true, false, List, [], ◌∷◌, length, Option, Some, None, refl, sym, ap, ◌∙◌, subst, ⊎_elim, arith}
use Rattle.std.proofs.lemmas.Bool.{cases_eq}
use Rattle.pass_kept_proof.specs.run_memory.Pointers.{moved, offset_of}
use Rattle.pass_kept_proof.specs.run_memory.declared.pointer.Offset.{Offset}
use Rattle.pass_kept_proof.specs.run_memory.declared.pointer.Pointer.{Pointer}
use Rattle.pass_kept_proof.specs.run_memory.declared.pointer.Value.{Value}
use Rattle.pass_kept_proof.proofs.Same.{kept_at, kept_wide}
use Rattle.pass_kept_proof.specs.Kept.{kept}
use Rattle.run_laws.proofs.memory.Homes.{value_on}
use Rattle.run_laws.specs.memory.Pointers.{Extends, Home, IsValue}
use Rattle.pass_kept_proof.specs.run_step.Step.{Work}
use Rattle.pass_kept_proof.specs.run_step.Values.{Env, pointer_to, value_in, value_or_poison}
use Rattle.pass_renewed_proof.proofs.Steps.{cut_at}
use Rattle.pass_renewed_proof.specs.Renewed.{in_new_slot, renewed_value, renewed_values}
use Rattle.pass_renewed_proof.specs.SlotEnvs.{AreMadeAnew, AreRoots, AreSlotEnvs, IsAddress}
use Rattle.pass_renewed_proof.specs.Steps.{AreSet}

-- ---- addresses that are moved

new_poison : (r : Value) → in_new_slot r Value.Poison ≡ Value.Poison
new_poison Value.Poison = refl
new_poison (Value.Int x) = refl
new_poison (Value.Ptr Pointer.Null) = refl
new_poison (Value.Ptr (Pointer.Func f)) = refl
new_poison (Value.Ptr (Pointer.At b o)) = refl

value_plain : (e : Env) (o : Option ℕ) (x : Option Value) → o ≡ None → renewed_value e o x ≡ x
value_plain e o x h = ap (λ z. renewed_value e z x) h

value_rooted : (e : Env) (o : Option ℕ) (a : ℕ) (x : Option Value) → o ≡ Some a → value_or_poison (Some (renewed_value e o x)) ≡ in_new_slot (value_in e a) (value_or_poison (Some x))
value_rooted e o a x h = ap (λ z. value_or_poison (Some (renewed_value e z x))) h ∙ on x
  where
    on : (x : Option Value) → value_or_poison (Some (renewed_value e (Some a) x)) ≡ in_new_slot (value_in e a) (value_or_poison (Some x))
    on None = sym (new_poison (value_in e a))
    on (Some v) = refl

renewed_plain : (roots : ℕ → Option ℕ) (e vs : Env) (v : ℕ) → roots v ≡ None → value_in (renewed_values roots e vs) v ≡ value_in vs v
renewed_plain roots e [] v h = refl
renewed_plain roots e (x ∷ vs) zero h = ap (λ z. value_or_poison (Some z)) (value_plain e (roots 0) x h)
renewed_plain roots e (x ∷ vs) (suc v) h = renewed_plain (λ i. roots (suc i)) e vs v h

renewed_rooted : (roots : ℕ → Option ℕ) (e vs : Env) (v a : ℕ) → roots v ≡ Some a → value_in (renewed_values roots e vs) v ≡ in_new_slot (value_in e a) (value_in vs v)
renewed_rooted roots e [] v a h = sym (new_poison (value_in e a))
renewed_rooted roots e (x ∷ vs) zero a h = value_rooted e (roots 0) a x h
renewed_rooted roots e (x ∷ vs) (suc v) a h = renewed_rooted (λ i. roots (suc i)) e vs v a h

renewed_length : (roots : ℕ → Option ℕ) (e vs : Env) → length (renewed_values roots e vs) ≡ length vs
renewed_length roots e [] = refl
renewed_length roots e (x ∷ vs) = ap suc (renewed_length (λ i. roots (suc i)) e vs)

start_moved : moved (offset_of 0) 0 ≡ offset_of 0
start_moved = refl

same_offset : (b c : ℕ) (o q : Offset) → Value.Ptr (Pointer.At b o) ≡ Value.Ptr (Pointer.At c q) → o ≡ q
same_offset b c o q e = cc

pub renewed_stand : (homes : List Home) (roots : ℕ → Option ℕ) (env other mid : Env) → AreRoots roots → AreSlotEnvs homes roots env other → AreMadeAnew roots other mid → AreSlotEnvs homes roots env (renewed_values roots mid mid)
renewed_stand homes roots env other mid idem old made = record {
  plain = λ v h. subst (IsValue homes (value_in env v)) (sym (renewed_plain roots mid mid v h ∙ made.others v (λ e. no_root v h e))) (old.plain v h);
  rooted = λ v a h. ⊎_elim (λ e. inl e) (λ ad. inr (moved_to v a h ad)) (old.rooted v a h);
  room = let e = renewed_length roots mid mid in let r = made.room in let q = old.room in omega arith;
}
  where
    no_root : (v : ℕ) → roots v ≡ None → roots v ≡ Some v → ⊥
    no_root v h e = let k : None ≡ Some v = sym h ∙ e in absurd (cc)

    other_root : (v a : ℕ) → roots v ≡ Some a → (v ≡ a → ⊥) → roots v ≡ Some v → ⊥
    other_root v a h ne e = let k : Some v ≡ Some a = sym e ∙ h in ne (cc)

    moved_to : (v a : ℕ) → roots v ≡ Some a → IsAddress (value_in env a) (value_in other a) (value_in env v) (value_in other v) → IsAddress (value_in env a) (value_in (renewed_values roots mid mid) a) (value_in env v) (value_in (renewed_values roots mid mid) v)
    moved_to v a h ad =
        let root : roots a ≡ Some a = idem v a h in
        let c = made.anew a root in
        let at_root : value_in (renewed_values roots mid mid) a ≡ pointer_to c.0 = renewed_rooted roots mid mid a a root ∙ ap (λ z. in_new_slot z z) c.1 in
        record {
          block = ad.block;
          target = c.0;
          offset = ad.offset;
          root_is = ad.root_is;
          other_is = at_root;
          source = ad.source;
          stands = renewed_rooted roots mid mid v a h ∙ ap (λ z. in_new_slot z (value_in mid v)) c.1 ∙ ⊎_elim
              (λ e.
              let o : offset_of 0 ≡ ad.offset = same_offset ad.block ad.block (offset_of 0) ad.offset (sym ad.root_is ∙ ap (value_in env) (sym e) ∙ ad.source) in
              ap (in_new_slot (pointer_to c.0)) (ap (value_in mid) e ∙ c.1) ∙ ap (λ q. Value.Ptr (Pointer.At c.0 q)) (sym start_moved ∙ ap (λ q. moved q 0) o))
              (λ ne. ap (in_new_slot (pointer_to c.0)) (made.others v (other_root v a h ne) ∙ ad.stands))
              (cases_eq v a);
        }

-- ---- values that are kept

pub kept_stand : (homes : List Home) (roots : ℕ → Option ℕ) (keep : ℕ → Bool) (env other : Env) → ((v a : ℕ) → roots v ≡ Some a → keep a ≡ true) → AreSlotEnvs homes roots env other → AreSlotEnvs homes roots (kept keep env) (kept keep other)
kept_stand homes roots keep env other handed old = record {
  plain = λ v h. plain_at v h (keep v) refl;
  rooted = λ v a h. rooted_at v a h (keep v) refl;
  room = let e = kept_wide keep env in let k = kept_wide keep other in let r = old.room in omega arith;
}
  where
    plain_at : (v : ℕ) → roots v ≡ None → (t : Bool) → keep v ≡ t → IsValue homes (value_in (kept keep env) v) (value_in (kept keep other) v)
    plain_at v h true e = subst (λ z. IsValue homes z (value_in (kept keep other) v)) (sym (kept_at keep env v e)) (subst (IsValue homes (value_in env v)) (sym (kept_at keep other v e)) (old.plain v h))
    plain_at v h false e = subst (λ z. IsValue homes z (value_in (kept keep other) v)) (sym (cut_at keep env v e)) tt

    rooted_at : (v a : ℕ) → roots v ≡ Some a → (t : Bool) → keep v ≡ t → (value_in (kept keep env) v ≡ Value.Poison) ⊎ IsAddress (value_in (kept keep env) a) (value_in (kept keep other) a) (value_in (kept keep env) v) (value_in (kept keep other) v)
    rooted_at v a h false e = inl (cut_at keep env v e)
    rooted_at v a h true e = ⊎_elim
        (λ p. inl (kept_at keep env v e ∙ p))
        (λ ad. inr (record {
          block = ad.block;
          target = ad.target;
          offset = ad.offset;
          root_is = kept_at keep env a (handed v a h) ∙ ad.root_is;
          other_is = kept_at keep other a (handed v a h) ∙ ad.other_is;
          source = kept_at keep env v e ∙ ad.source;
          stands = kept_at keep other v e ∙ ad.stands;
        }))
        (old.rooted v a h)

-- ---- values after a step that gives a name that is no address in a slot, or none

pub set_stand : (homes more : List Home) (roots : ℕ → Option ℕ) (given : Option ℕ) (w x v y : Work) → Extends homes more → ((name a : ℕ) → roots name ≡ Some a → given ≡ Some name → ⊥) → AreRoots roots → AreSlotEnvs homes roots w.values x.values → AreSet more given w x v y → AreSlotEnvs more roots v.values y.values
set_stand homes more roots given w x v y ext no_root idem old set = record {
  plain = λ name h. plain_at name h given refl;
  rooted = λ name a h.
      let e = set.source name (no_root name a h) in
      let k = set.target name (no_root name a h) in
      let ea = set.source a (no_root a a (idem name a h)) in
      let ka = set.target a (no_root a a (idem name a h)) in
      ⊎_elim (λ p. inl (e ∙ p)) (λ ad. inr (record { block = ad.block; target = ad.target; offset = ad.offset; root_is = ea ∙ ad.root_is; other_is = ka ∙ ad.other_is; source = e ∙ ad.source; stands = k ∙ ad.stands })) (old.rooted name a h);
  room = set.room;
}
  where
    unchanged : (name : ℕ) → roots name ≡ None → (given ≡ Some name → ⊥) → IsValue more (value_in v.values name) (value_in y.values name)
    unchanged name h ne = subst (λ z. IsValue more z (value_in y.values name)) (sym (set.source name ne)) (subst (IsValue more (value_in w.values name)) (sym (set.target name ne)) (value_on homes more ext _ _ (old.plain name h)))

    plain_at : (name : ℕ) → roots name ≡ None → (o : Option ℕ) → given ≡ o → IsValue more (value_in v.values name) (value_in y.values name)
    plain_at name h None e = unchanged name h (λ k. let c : None ≡ Some name = sym e ∙ k in absurd (cc))
    plain_at name h (Some r) e = ⊎_elim
        (λ is. set.stands name (e ∙ ap Some (sym is)))
        (λ ne. unchanged name h (λ k. let c : Some name ≡ Some r = sym k ∙ e in ne (cc)))
        (cases_eq name r)
