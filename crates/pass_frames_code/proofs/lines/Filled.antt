-- Ranges that are filled, and lines behind one another.
use Rattle.std.proofs.Common.{◌≡◌, inl, ℕ, zero, suc, ◌≤◌, List, [], ◌∷◌, ◌++◌, length, refl, sym, ap, ◌∙◌, subst, arith}
use Rattle.std.specs.Prelude.{None, Option, Some, slice_get, ◌≢◌}
use Rattle.pass_proofs.proofs.ir_laws.facts.Members.{each_turns}
use Rattle.pass_proofs.specs.ir_model.declared.instr.Instr.{Instr}
use Rattle.pass_frames_code.specs.Distances.{SetsFrom}
use Rattle.pass_frames_code.specs.Lines.{AreAway, AreElsewhere, Fills, LiesApart, NoneFilled, OneFilled, RunsOver, with_memory}
use Rattle.pass_proofs.proofs.run_laws.access.Done.{other_held, write_away}
use Rattle.pass_proofs.proofs.run_laws.access.Lines.{runs_append}
use Rattle.pass_proofs.proofs.run_laws.embedded.Memories.{bounds_kept, nulls_kept, same_refills}
use Rattle.pass_proofs.specs.run_laws.access.Accessed.{Span}
use Rattle.pass_proofs.specs.run_laws.access.Lines.{AreDisjoint, Holds, Runs, refilled_at}
use Rattle.pass_proofs.specs.run_laws.embedded.Refilled.{AreRefilled, IsRefilled}
use Rattle.pass_proofs.specs.run_laws.embedded.Related.{AreWorlds}
use Rattle.pass_proofs.specs.run_laws.memory.Pointers.{Home}
use Rattle.pass_proofs.specs.run_laws.memory.Standing.{AreByteRights, Embeds, IsAway}
use Rattle.pass_proofs.specs.run_memory.Memory.{Rights, with_block, with_bytes}
use Rattle.pass_proofs.specs.run_memory.declared.block.Byte.{Byte}
use Rattle.pass_proofs.specs.run_memory.declared.block.MemoryBlock.{MemoryBlock}
use Rattle.pass_proofs.specs.run_step.Step.{Context, Work}
use Rattle.pass_proofs.specs.run_step.declared.world.World.{World}

-- ---- what holds elsewhere stays

pub others_stay : (rights : Rights) → AreByteRights rights → (spans : List Span) (m k : List MemoryBlock)
    (b o most : ℕ) (bytes : List Byte) → Fills rights spans m k → LiesApart b o (length bytes) spans
    → Holds rights m b o most bytes → Holds rights k b o most bytes
others_stay rights law _ _ _ b o most bytes (NoneFilled m) apart h = h
others_stay rights law _ _ _ b o most bytes (OneFilled c p much old new spans m k held long rest) apart h =
    others_stay rights law spans (refilled_at m c p new) k b o most bytes rest apart.1
    (other_held rights m b o most c p much bytes old new law h held long apart.0)

pub elsewhere_apart : (b o len : ℕ) (spans : List Span) → AreElsewhere b spans → LiesApart b o len spans
elsewhere_apart b o len spans h =
    each_turns (λ (s : Span). s.block ≢ b) (λ (s : Span). AreDisjoint s.block s.offset s.len b o len)
    (λ s n. inl (λ e. n (sym e))) spans h

pub fills_joined : (rights : Rights) (spans more : List Span) (m k l : List MemoryBlock) → Fills rights spans m k
    → Fills rights more k l → Fills rights (spans ++ more) m l
fills_joined rights _ more _ _ l (NoneFilled m) g = g
fills_joined rights _ more _ _ l (OneFilled c p much old new spans m k held long rest) g =
    OneFilled c p much old new (spans ++ more) m l held long
    (fills_joined rights spans more (refilled_at m c p new) k l rest g)

-- ---- nothing but bytes is another

refilled_itself : (o : Option MemoryBlock) → IsRefilled o o
refilled_itself None = tt
refilled_itself (Some x) = refl

one_refilled : (m : List MemoryBlock) (k b o : ℕ) (new : List Byte)
    → IsRefilled (slice_get m b) (slice_get (with_block m k (with_bytes o new)) b)
one_refilled [] k b o new = tt
one_refilled (x ∷ m) zero zero o new = refl
one_refilled (x ∷ m) zero (suc b) o new = refilled_itself (slice_get m b)
one_refilled (x ∷ m) (suc k) zero o new = refl
one_refilled (x ∷ m) (suc k) (suc b) o new = one_refilled m k b o new

refilled_on : (p q r : Option MemoryBlock) → IsRefilled p q → IsRefilled q r → IsRefilled p r
refilled_on None None None a b = tt
refilled_on None None (Some z) a b = b
refilled_on None (Some y) r a b = absurd a
refilled_on (Some x) None r a b = absurd a
refilled_on (Some x) (Some y) None a b = b
refilled_on (Some x) (Some y) (Some z) a b = b ∙ ap (λ (u : MemoryBlock). record u { bytes = z.bytes }) a

pub all_refilled : (rights : Rights) (spans : List Span) (m k : List MemoryBlock) → Fills rights spans m k
    → AreRefilled m k
all_refilled rights _ _ _ (NoneFilled m) = same_refills m
all_refilled rights _ _ _ (OneFilled c p much old new spans m k held long rest) =
    let later = all_refilled rights spans (refilled_at m c p new) k rest in
    record {
      each = λ b. refilled_on (slice_get m b) (slice_get (refilled_at m c p new) b) (slice_get k b)
          (one_refilled m c b p new) (later.each b);
    }

-- ---- the source stands still

module _ (rights target : Rights) (law : AreByteRights rights) (law' : AreByteRights target) (homes : List Home) where
  pub source_stands : (m : List MemoryBlock) (spans : List Span) (n k : List MemoryBlock) → Fills target spans n k
      → AreAway rights homes m spans → Embeds rights target homes m n → Embeds rights target homes m k
  source_stands m _ _ _ (NoneFilled n) away em = em
  source_stands m _ _ _ (OneFilled c p much old new spans n k held long rest) away em =
      source_stands m spans (refilled_at n c p new) k rest away.1
      (write_away rights target homes m n c p much old new law law' em held long
      (λ a z e live. subst (λ (len : ℕ). IsAway rights homes a z c p len) long (away.0 a z e live)))

  pub worlds_stand : (moves : ℕ → ℕ) (s t : World) (spans : List Span) (k : List MemoryBlock)
      → Fills target spans t.memory k → AreAway rights homes s.memory spans → AreWorlds rights target homes moves s t
      → AreWorlds rights target homes moves s (with_memory t k)
  worlds_stand moves s t spans k fills away h =
      let same : AreRefilled s.memory s.memory = same_refills s.memory in
      let other : AreRefilled t.memory k = all_refilled target spans t.memory k fills in
      record {
        memory = source_stands s.memory spans t.memory k fills away h.memory;
        nulls = nulls_kept rights target homes s.memory t.memory s.memory k law law' same other h.nulls;
        bounds = bounds_kept homes s.memory t.memory s.memory k same other h.bounds;
        events = h.events;
        answers = h.answers;
        allocs = h.allocs;
      }

-- ---- lines

pub over_none : (c : Context) (n : ℕ) (w : Work) → RunsOver c [] n [] w w
over_none c n w =
    record { runs = refl; fills = NoneFilled w.world.memory; world = refl; others = λ v lt. refl; room = refl }

pub over_joined : (c : Context) (line more : List Instr) (n : ℕ) (spans others : List Span) (w x y : Work)
    → RunsOver c line n spans w x → RunsOver c more n others x y
    → RunsOver c (line ++ more) n (spans ++ others) w y
over_joined c line more n spans others w x y a b = record {
  runs = runs_append c line more w x y a.runs b.runs;
  fills = fills_joined c.rights spans others w.world.memory x.world.memory y.world.memory a.fills b.fills;
  world = b.world ∙ ap (λ (u : World). record u { memory = y.world.memory }) a.world;
  others = λ v lt. b.others v lt ∙ a.others v lt;
  room = b.room ∙ a.room;
}

-- a line that only sets new names
pub over_sets : (c : Context) (line : List Instr) (n : ℕ) (w x : Work) → Runs c line w x → SetsFrom n w x
    → RunsOver c line n [] w x
over_sets c line n w x runs sets =
    let same : w.world.memory ≡ x.world.memory = sym (ap (λ (u : World). u.memory) sets.world) in
    record {
      runs = runs;
      fills = subst (λ (m : List MemoryBlock). Fills c.rights [] w.world.memory m) same (NoneFilled w.world.memory);
      world = sets.world ∙ ap (λ (m : List MemoryBlock). record w.world { memory = m }) same;
      others = sets.others;
      room = sets.room;
    }

-- fewer names count as old ones
pub over_fewer : (c : Context) (line : List Instr) (n k : ℕ) (spans : List Span) (w x : Work) → n ≤ k
    → RunsOver c line k spans w x → RunsOver c line n spans w x
over_fewer c line n k spans w x le h = record {
  runs = h.runs;
  fills = h.fills;
  world = h.world;
  others = λ v lt. h.others v (omega (arith, le, lt));
  room = h.room;
}
