-- What marks of blocks tell of paths from the entry, from resume edges and from destroy edges.
use Rattle.std.proofs.Common.{◌≡◌, ℕ, zero, suc, ◌+◌, ◌<◌, ◌≤◌, Bool, true, false, not, ◌&&◌, List, [], ◌∷◌, length, get_or, Some, None, Option, refl, sym, ap, ◌∙◌, subst, ⊎_elim, arith}
use Rattle.std.specs.Prelude.{slice_get, IsTrue, IsFalse, ◌↔◌}
use Rattle.std.proofs.lemmas.Bool.{cases_lt, false≢true}
use Rattle.std.proofs.lemmas.Option.{slice_get-get_or}
use Rattle.elide_sites.proofs.Leading.{mark_is}
use Rattle.elide_sites.specs.Destroyed.{AreApart, AreApartTo, AreOn, FreesWhenDestroyed, IsOn, has_at, has_in, is_free, is_stop, mark_at, marks_of}
use Rattle.elide_sites.specs.declared.destroyed.Way.{Way}
use Rattle.ir_model.specs.declared.instr.Instr.{Instr}
use Rattle.ir_model.specs.declared.module.Block.{Block}
use Rattle.ir_model.specs.declared.module.Function.{Function}
use Rattle.ir_paths.specs.Windows.{end_block}
use Rattle.flow_points.proofs.Tests.{read_at}

-- ---- tests

and_first : (a b : Bool) → (a && b) ≡ true → a ≡ true
and_first true b e = refl
and_first false b e = absurd (false≢true e)

and_second : (a b : Bool) → (a && b) ≡ true → b ≡ true
and_second true b e = e
and_second false b e = absurd (false≢true e)

and_both : (a b : Bool) → a ≡ true → b ≡ true → (a && b) ≡ true
and_both true b e h = h
and_both false b e h = absurd (false≢true e)

open_mark : (a b : Bool) → a ≡ true → (a && b) ≡ false → b ≡ false
open_mark true b e h = h
open_mark false b e h = absurd (false≢true e)

not_true : (b : Bool) → not b ≡ true → b ≡ true → ⊥
not_true true e h = false≢true e
not_true false e h = false≢true h

or_not : (b : Bool) → (not b ≡ true → ⊥) → b ≡ true
or_not true h = refl
or_not false h = absurd (h refl)

same_some : {X : Type 0} (a b : X) → Some a ≡ Some b → a ≡ b
same_some a b e = cc

pub past : {X : Type 0} (xs : List X) (i : ℕ) → length xs ≤ i → slice_get xs i ≡ None
past [] i le = refl
past (x ∷ xs) zero le = absurd (omega arith)
past (x ∷ xs) (suc i) le = past xs i (omega arith)

pub within : {X : Type 0} (xs : List X) (i : ℕ) (x : X) → slice_get xs i ≡ Some x → i < length xs
within [] i x e = absurd (cc)
within (y ∷ xs) zero x e = omega arith
within (y ∷ xs) (suc i) x e = let lt : i < length xs = within xs i x e in omega arith

-- ---- two lists of marks

pub apart_first : (led marks : List Bool) → AreApartTo 0 led marks
apart_first led marks = record { each = λ b below e. absurd (omega arith) }

pub apart_step : (at : ℕ) (led marks : List Bool) (is : Bool) → at < length led → is ≡ get_or led at is → (is && mark_at marks at) ≡ false → AreApartTo at led marks → AreApartTo (at + 1) led marks
apart_step at led marks is lt got none before = record { each = each }
  where
    here : (b : ℕ) → b ≡ at → slice_get led b ≡ Some true → mark_at marks b ≡ false
    here b same e =
        subst (λ n. mark_at marks n ≡ false) (sym same)
        (open_mark is (mark_at marks at) (same_some is true (sym (read_at led at is lt got) ∙ ap (slice_get led) (sym same) ∙ e)) none)

    each : (b : ℕ) → b < at + 1 → slice_get led b ≡ Some true → mark_at marks b ≡ false
    each b below e = ⊎_elim (λ less. before.each b less e) (λ more. here b (omega (arith, below, more)) e) (cases_lt b at)

pub not_apart : (at : ℕ) (led marks : List Bool) (is mark : Bool) → at < length led → is ≡ get_or led at is → mark ≡ mark_at marks at → is ≡ true → mark ≡ true → IsTrue false ↔ AreApart led marks
not_apart at led marks is mark lt got is_mark so marked = (
  (λ e. absurd (false≢true e)),
  (λ apart. absurd (false≢true (sym (apart.each at (read_at led at is lt got ∙ ap (λ (b : Bool). Some b) so)) ∙ sym is_mark ∙ marked))),
)

pub are_apart : (at : ℕ) (led marks : List Bool) → length led ≤ at → AreApartTo at led marks → IsTrue true ↔ AreApart led marks
are_apart at led marks le all = (
  (λ e. record { each = λ b is. let lt = within led b true is in all.each b (omega (arith, lt)) is }),
  (λ apart. refl),
)

-- ---- marks and paths

no_block : (test : Instr → Bool) (o : Option Block) → o ≡ None → has_in test o ≡ false
no_block test o e = ap (has_in test) e

apart_to : (test : Instr → Bool) (way : Way) (f : Function) (led : List Bool) → AreOn way f led → AreApart led (marks_of test f) → (b : ℕ) → IsOn way f b → has_at test f b ≡ false
apart_to test way f led on apart b path = ⊎_elim
    (λ lt.
    let at = slice_get-get_or led b false lt in
    let so = (on.each b (get_or led b false) at).1 path in
    sym (mark_is test f b) ∙ apart.each b (at ∙ ap (λ (x : Bool). Some x) so))
    (λ more. let len = on.count in no_block test (slice_get f.blocks b) (past f.blocks b (omega (arith, len, more))))
    (cases_lt b (length led))

apart_from : (test : Instr → Bool) (way : Way) (f : Function) (led : List Bool) → AreOn way f led → ((b : ℕ) → IsOn way f b → has_at test f b ≡ false) → AreApart led (marks_of test f)
apart_from test way f led on none = record { each = λ b is. mark_is test f b ∙ none b ((on.each b true is).0 refl) }

pub frees_is : (f : Function) (calm unfreed destroyed : List Bool) (b1 b2 b3 : Bool) → AreOn Way.Calm f calm → AreOn Way.Unfreed f unfreed → AreOn Way.Destroyed f destroyed → IsTrue b1 ↔ AreApart calm (marks_of is_free f) →
    slice_get unfreed (end_block f) ≡ Some (not b2) → IsTrue b3 ↔ AreApart destroyed (marks_of is_stop f) → IsTrue (b1 && (b2 && b3)) ↔ FreesWhenDestroyed f
frees_is f calm unfreed destroyed b1 b2 b3 on1 on2 on3 h1 h2 h3 = (to, from)
  where
    to : IsTrue (b1 && (b2 && b3)) → FreesWhenDestroyed f
    to e =
        let rest = and_second b1 (b2 && b3) e in
        record {
          calm = apart_to is_free Way.Calm f calm on1 (h1.0 (and_first b1 (b2 && b3) e));
          freed = λ path. not_true b2 ((on2.each (end_block f) (not b2) h2).1 path) (and_first b2 b3 rest);
          still = apart_to is_stop Way.Destroyed f destroyed on3 (h3.0 (and_second b2 b3 rest));
        }

    from : FreesWhenDestroyed f → IsTrue (b1 && (b2 && b3))
    from d =
        and_both b1 (b2 && b3) (h1.1 (apart_from is_free Way.Calm f calm on1 d.calm))
        (and_both b2 b3 (or_not b2 (λ e. d.freed ((on2.each (end_block f) (not b2) h2).0 e)))
        (h3.1 (apart_from is_stop Way.Destroyed f destroyed on3 d.still)))
