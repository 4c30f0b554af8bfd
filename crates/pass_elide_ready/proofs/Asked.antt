-- A coroutine that asks for its frame so does it by the shape that tells of it, in no other way.
use Rattle.std.proofs.Common.{◌≡◌, ◌≢◌, ℕ, Bool, true, false, List, length, refl, sym, ap, ◌∙◌, subst}
use Rattle.std.specs.Prelude.{None, Option, Some, nat_le, nat_lt, slice_get, if◌then◌else◌, ◌||◌, ◌==◌}
use Rattle.pass_elide_edges.specs.pass_elide_proof.Elision.{Shape}
use Rattle.pass_elide_edges.specs.pass_elide_proof.Places.{instrs_of}
use Rattle.pass_elide_edges.specs.pass_elide_proof.Shapes.{AsksForFrame, JumpsTo}
use Rattle.pass_elide_ready.proofs.Numbers.{above_chosen, below_chosen, beyond_chosen, given_there, most_chosen, other_chosen, same_chosen}
use Rattle.pass_elide_ready.specs.Form.{Asking, AsksSo, Freeing, beside_of, gives_in, held_at, made_of, shape_by}
use Rattle.pass_elide_edges.proofs.pass_elide_proof.pass_proofs.ir_laws.facts.Truth.{equal_numbers, itself}
use Rattle.pass_elide_edges.specs.pass_elide_proof.pass_proofs.ir_model.Names.{position_of}
use Rattle.pass_elide_edges.specs.pass_elide_proof.pass_proofs.ir_model.declared.instr.Instr.{Instr}
use Rattle.pass_elide_edges.specs.pass_elide_proof.pass_proofs.ir_model.declared.instr.Terminator.{Terminator}
use Rattle.pass_elide_edges.specs.pass_elide_proof.pass_proofs.ir_model.declared.module.Function.{Function}
use Rattle.pass_elide_edges.specs.pass_elide_proof.pass_proofs.ir_model.declared.operand.Operand.{Operand}
use Rattle.pass_elide_edges.specs.pass_elide_proof.pass_proofs.ir_parts.Contents.{result_of}
use Rattle.pass_elide_edges.specs.pass_elide_proof.pass_proofs.run_step.Step.{AtTerm, fetch}

pub or_here : (a b : Bool) → a ≡ true → (a || b) ≡ true
or_here a b e = ap (λ (t : Bool). t || b) e

pub or_there : (a b : Bool) → b ≡ true → (a || b) ≡ true
or_there true b e = refl
or_there false b e = e

module _ (f : Function) (a : Asking) (qs : List Freeing) (s : AsksSo f a) (x : Shape) (p : x ≡ shape_by f a qs) where
  -- ---- what is held

  abbrev in_allocates : ℕ → Option ℕ
  in_allocates at = if nat_lt a.allocation at then Some a.block else None

  abbrev in_begins : ℕ → Option ℕ
  in_begins at = if nat_le at a.begin then Some a.memory else None

  abbrev in_last : ℕ → ℕ → Option ℕ
  in_last b at = if b == a.begins then in_begins at else None

  abbrev behind : ℕ → ℕ → Option ℕ
  behind b at = if b == a.after then Some a.block else in_last b at

  holds_are : (b at : ℕ) → x.holds b at ≡ held_at a b at
  holds_are b at = ap (λ (y : Shape). y.holds b at) p

  pub held_there : (at : ℕ) → x.holds a.allocates at ≡ in_allocates at
  held_there at = holds_are a.allocates at ∙ same_chosen a.allocates (in_allocates at) (behind a.allocates at)

  pub held_after : (at : ℕ) → x.holds a.after at ≡ Some a.block
  held_after at = holds_are a.after at ∙ other_chosen a.after a.allocates (in_allocates at)
      (behind a.after at) s.apart_after
      ∙ same_chosen a.after (Some a.block) (in_last a.after at)

  pub held_begins : (at : ℕ) → x.holds a.begins at ≡ in_begins at
  held_begins at = holds_are a.begins at ∙ other_chosen a.begins a.allocates (in_allocates at)
      (behind a.begins at) s.apart_begins
      ∙ other_chosen a.begins a.after (Some a.block) (in_last a.begins at) s.apart_last
      ∙ same_chosen a.begins (in_begins at) None

  pub held_elsewhere : (k at : ℕ) → k ≢ a.allocates → k ≢ a.after → k ≢ a.begins → x.holds k at ≡ None
  held_elsewhere k at one two three = holds_are k at ∙ other_chosen k a.allocates (in_allocates at) (behind k at) one
      ∙ other_chosen k a.after (Some a.block) (in_last k at) two
      ∙ other_chosen k a.begins (in_begins at) None three

  -- ---- what is made

  abbrev made_there : ℕ → Bool
  made_there v = gives_in f a.allocates v || (gives_in f a.after v || gives_in f a.beside v)

  pub made_are : (v : ℕ) → x.made v ≡ made_of f a v
  made_are v = ap (λ (y : Shape). y.made v) p

  pub made_allocating : (k v : ℕ) (i : Instr) → slice_get (instrs_of f a.allocates) k ≡ Some i → result_of i ≡ Some v
      → x.made v ≡ true
  made_allocating k v i there one = made_are v ∙ or_there (v == a.memory) (made_there v)
      (or_here (gives_in f a.allocates v) _ (given_there f a.allocates k v i there one))

  pub made_after : (k v : ℕ) (i : Instr) → slice_get (instrs_of f a.after) k ≡ Some i → result_of i ≡ Some v
      → x.made v ≡ true
  made_after k v i there one = made_are v ∙ or_there (v == a.memory) (made_there v)
      (or_there (gives_in f a.allocates v) _
      (or_here (gives_in f a.after v) _ (given_there f a.after k v i there one)))

  pub made_beside : (k v : ℕ) (i : Instr) → slice_get (instrs_of f a.beside) k ≡ Some i → result_of i ≡ Some v
      → x.made v ≡ true
  made_beside k v i there one = made_are v ∙ or_there (v == a.memory) (made_there v)
      (or_there (gives_in f a.allocates v) _
      (or_there (gives_in f a.after v) _ (given_there f a.beside k v i there one)))

  -- ---- it asks

  pub waits_are : (b : ℕ) → x.waits b ≡ (if b == a.allocates then Some a.asks else None)
  waits_are b = ap (λ (y : Shape). y.waits b) p

  abbrev pub asks_for_frame : AsksForFrame f x
  asks_for_frame = record {
    asks = a.asks;
    allocates = a.allocates;
    after = a.after;
    beside = a.beside;
    begins = a.begins;
    need = a.need;
    one = a.one;
    other = a.other;
    branch = s.branch;
    to_allocator = s.to_allocator;
    to_beside = s.to_beside;
    jumps = s.jumps;
    joins = s.joins;
    meets = s.meets;
    waits = waits_are a.allocates ∙ same_chosen a.allocates (Some a.asks) None;
    aside = ap (λ (y : Shape). y.aside a.after) p ∙ same_chosen a.after (Some a.beside) (beside_of qs a.after);
    instrs = s.instrs;
    allocation = a.allocation;
    allocator = s.allocator;
    there = s.there;
    is_allocator = s.is_allocator;
    once = s.once;
    loads = s.loads;
    many = s.many;
    block = a.block;
    memory = a.memory;
    begin = a.begin;
    start = s.start;
    given = s.given;
    is_start = s.is_start;
    is_begin = s.is_begin;
    takes = s.takes;
    held = λ at lt. held_there at ∙ below_chosen a.allocation at (Some a.block) None lt;
    held_behind = held_after;
    held_until = λ at le. held_begins at ∙ most_chosen at a.begin (Some a.memory) None le;
    free_before = λ at le. held_there at ∙ above_chosen a.allocation at (Some a.block) None le;
    free_behind = λ at lt. held_begins at ∙ beyond_chosen at a.begin (Some a.memory) None lt;
    free_elsewhere = held_elsewhere;
    is_need = ap (λ (y : Shape). y.need a.need) p ∙ itself a.need;
    is_memory = made_are a.memory ∙ or_here (a.memory == a.memory) (made_there a.memory) (itself a.memory);
    is_made = made_allocating;
    is_loaded = made_after;
    is_loaded_beside = made_beside;
  }

  -- ---- no other block asks

  one_label : (block one two : ℕ) → fetch f block (length (instrs_of f block)) ≡ AtTerm (Terminator.Jump one)
      → fetch f block (length (instrs_of f block)) ≡ AtTerm (Terminator.Jump two) → one ≡ two
  one_label block one two here there =
      let both : AtTerm (Terminator.Jump one) ≡ AtTerm (Terminator.Jump two) = sym here ∙ there in
      cc

  pub jumps_alike : (block other t u : ℕ) → block ≡ other → JumpsTo f block t → JumpsTo f other u → t ≡ u
  jumps_alike block other t u same j k =
      let labels = one_label other j.label k.label
      (subst (λ (b : ℕ). fetch f b (length (instrs_of f b)) ≡ AtTerm (Terminator.Jump j.label)) same j.stands) k.stands
      in
      sym j.leads ∙ ap (position_of f) labels ∙ k.leads

  pub waits_there : (b y : ℕ) → x.waits b ≡ Some y → (b ≡ a.allocates) × (y ≡ a.asks)
  waits_there b y e = on (b == a.allocates) refl (sym (waits_are b) ∙ e)
    where
      on : (t : Bool) → (b == a.allocates) ≡ t → (if t then Some a.asks else None) ≡ Some y
          → (b ≡ a.allocates) × (y ≡ a.asks)
      on true d h = let same : a.asks ≡ y = cc in (equal_numbers b a.allocates d, sym same)
      on false d h = absurd (cc)

  module _ (k : AsksForFrame f x) where
    pub allocates_is : k.allocates ≡ a.allocates
    allocates_is = (waits_there k.allocates k.asks k.waits).0

    pub asks_is : k.asks ≡ a.asks
    asks_is = (waits_there k.allocates k.asks k.waits).1

    pub after_is : k.after ≡ a.after
    after_is = jumps_alike k.allocates a.allocates k.after a.after allocates_is k.jumps s.jumps

    pub begins_is : k.begins ≡ a.begins
    begins_is = jumps_alike k.after a.after k.begins a.begins after_is k.joins s.joins

    branches_alike : AtTerm (Terminator.Branch (Operand.Local k.need) k.one k.other)
        ≡ AtTerm (Terminator.Branch (Operand.Local a.need) a.one a.other)
    branches_alike = sym k.branch ∙ ap (λ (b : ℕ). fetch f b (length (instrs_of f b))) asks_is ∙ s.branch

    pub need_is : k.need ≡ a.need
    need_is = let both = branches_alike in cc

    other_is : k.other ≡ a.other
    other_is = let both = branches_alike in cc

    pub beside_is : k.beside ≡ a.beside
    beside_is = sym k.to_beside ∙ ap (position_of f) other_is ∙ s.to_beside
