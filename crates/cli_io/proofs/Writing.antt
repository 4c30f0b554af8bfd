-- What several writes together have done.
use Rattle.std.proofs.Common.{◌≡◌, ◌≤◌, ◌-◌, ℕ, List, ◌++◌, Option, length, take, drop, sym, ap, ◌∙◌, subst, append_assoc, arith, take-append-drop, length-append, length-take}
use Rattle.std.specs.Io.KnownBytes.{Appends, Keeps}
use Rattle.std.proofs.KnownBytes.{Appends-trans, Appends-kept}
use Rattle.cli_io.specs.Parts.{AppendsPrefix}

-- a prefix of what was left was written behind what was gone
pub prefix_then : (a b c : Option (List ℕ)) (bytes gone rest : List ℕ) → bytes ≡ gone ++ rest → Appends a b gone → AppendsPrefix b c rest → AppendsPrefix a c bytes
prefix_then a b c bytes gone rest e first then =
    (gone ++ then.0, then.1, e ∙ ap (λ (l : List ℕ). gone ++ l) then.2 ∙ sym (append_assoc gone then.0 then.1), Appends-trans a b c gone then.0 first then.3)

-- more is gone
pub parts_then : (bytes gone rest after : List ℕ) (n : ℕ) → bytes ≡ gone ++ rest → after ≡ drop n rest → bytes ≡ (gone ++ take n rest) ++ after
parts_then bytes gone rest after n e r =
    e ∙ ap (λ (l : List ℕ). gone ++ l) (sym (take-append-drop n rest) ∙ ap (λ (l : List ℕ). take n rest ++ l) (sym r)) ∙ sym (append_assoc gone (take n rest) after)

pub room_then : (room n : ℕ) (gone rest : List ℕ) → n ≤ length rest → (room - length gone) - n ≡ room - length (gone ++ take n rest)
room_then room n gone rest h = simp (length-append, length-take) (omega arith)

pub left_fits : (room : ℕ) (bytes gone rest : List ℕ) → bytes ≡ gone ++ rest → length bytes ≤ room → length rest ≤ room - length gone
left_fits room bytes gone rest e h = omega (arith, length-append gone rest, ap length e)

-- a front was written, and then a flush failed
pub kept_prefix : (a b c d : Option (List ℕ)) (bytes : List ℕ) (n : ℕ) → Appends a b (take n bytes) → Keeps b c → d ≡ c → AppendsPrefix a d bytes
kept_prefix a b c d bytes n h k e =
    let kept = Appends-kept a b c (take n bytes) h k in
    (take n bytes, drop n bytes, sym (take-append-drop n bytes), subst (λ (w : Option (List ℕ)). Appends a w (take n bytes)) (sym e) kept)
