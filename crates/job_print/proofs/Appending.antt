-- Texts written one behind the other.
use Rattle.std.proofs.Common.{◌≡◌, ℕ, ◌+◌, ◌-◌, ◌≤◌, List, [], ◌++◌, length, take, drop, refl, sym, ◌∙◌, arith, append_assoc, length-append, length-drop, length-take-le}
use Rattle.std.proofs.lemmas.List.{append-nil}
use Rattle.std.proofs.Math.Seq.{drop-drop}
use borrow.Rule.Slice.PartMut.{put_mid}
use Rattle.std.proofs.lemmas.Slice.{take-put_mid, drop-put_mid}
use Rattle.job_print.specs.Appended.{Appended}
use Rattle.job_print.specs.Page.{HasRoom, Wrote}
use Rattle.job_print.specs.declared.page.Page.{Page}

-- what lies beyond a place lies beyond a later one
beyond-later : (a b : List ℕ) (m r : ℕ) → m ≤ r → drop m a ≡ drop m b → drop r a ≡ drop r b
beyond-later a b m r h e =
    let f : m + (r - m) ≡ r = omega arith in
    let g : drop (m + (r - m)) a ≡ drop (m + (r - m)) b = rw (← drop-drop (r - m) m a, ← drop-drop (r - m) m b, e) in
    rw f at g

append_then : {was mid now t u : List ℕ} {at m r : ℕ} → Appended was at t mid m → Appended mid m u now r → Appended was at (t ++ u) now r
append_then {was} {mid} {now} {t} {u} {at} {m} {r} p q =
    record {
      size = q.size ∙ p.size;
      ends = simp length-append (omega (arith, p.ends, q.ends));
      written = q.written ∙ rw (p.written, append_assoc);
      beyond = q.beyond ∙ beyond-later mid was m r (omega (arith, q.ends)) p.beyond;
    }

-- a word copied to its place
pub word_copied : (was word part : List ℕ) (at room : ℕ) → at + length word ≤ length was → room ≡ length word → part ≡ word
    → Appended was at word (put_mid at room was part) (at + length word)
word_copied was word part at room h e f =
    record {
      size = rw f (simp length-append (omega (arith, length-take-le at was (omega arith), length-drop room (drop at was), length-drop at was)));
      ends = refl;
      written = take-put_mid at room was part (at + length word) (rw f) (omega arith) ∙ rw f;
      beyond = drop-put_mid at room was part (at + length word) (omega arith) (omega arith) (rw (f, e));
    }

-- ---- on a page

-- nothing
pub wrote_none : (p : Page) → Wrote p p []
wrote_none p =
    record {
      same_store = refl;
      appended = record { size = refl; ends = omega arith; written = sym (append-nil (take p.end p.bytes.now)); beyond = refl };
    }

-- a text and another behind it
pub wrote_then : {p q r : Page} {t u : List ℕ} → Wrote p q t → Wrote q r u → Wrote p r (t ++ u)
wrote_then a b = record { same_store = b.same_store ∙ a.same_store; appended = append_then a.appended b.appended }

-- the room that is left
pub room_left : {p q : Page} {t : List ℕ} (count : ℕ) → Wrote p q t → HasRoom p (length t + count) → HasRoom q count
room_left count a h = omega (arith, a.appended.ends, a.appended.size)

-- the store, once the page that lent it is given up
pub page_over : {p q : Page} {t : List ℕ} (now : List ℕ) → Wrote p q t → (p.bytes.ghost_name ≡ q.bytes.ghost_name → now ≡ q.bytes.now)
    → Appended p.bytes.now p.end t now q.end
page_over now a back = rw (back (sym a.same_store)) a.appended
