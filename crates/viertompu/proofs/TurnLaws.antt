-- One turn of each loop, and the parts of a plan one behind the other.
--     segment_written, module_written    the words of a segment more, of a module more
--     plan_written                       head, segments and modules over zeros, and the count of false headers
--     refusal_words, refusal_written     the words of a refusal
-- Assumes nothing.
use Rattle.std.specs.Prelude.{Ok, Err}
use mathlib.Core.Path.{◌≡◌, refl, ap, ◌∙◌}
use mathlib.Core.List.{List, [], ◌∷◌, ◌++◌, append_assoc}
use Prim.Native.Nat.{ℕ, suc, ◌+◌, ◌*◌}
use native.Mathlib.Nat.{zero-add}
use native.Mathlib.Omega.{arith}
use lib.ListN.{length, set, length-append}
use lib.Seq.{set_at}
use Rattle.buffer.specs.Patched.{patched, zeros}
use Rattle.buffer.specs.PatchedLaws.{patched-append, patched_split}
use Rattle.address.specs.declared.Span.{Span}
use Rattle.submission.specs.Format.{max_modules}
use Rattle.kernel.specs.declared.Kernel.{Kernel}
use Rattle.kernel.specs.Kernel.{max_segments}
use Rattle.answer.specs.Answer.{refusal_number, refusal_item}
use Rattle.answer.specs.declared.Refusal.{Refusal}
use Rattle.decision.specs.declared.Plan.{Plan}
use Rattle.decision.specs.Plan.{Decision, no_plan}
use Rattle.viertompu.specs.Joined.{joined}
use Rattle.viertompu.specs.JoinedLaws.{stored, length_joined, joined_written}
use Rattle.viertompu.specs.Words.{plan_size, words_per_segment, words_per_module, first_segment, first_module, head_words, segment_words, module_words, segments_words, modules_words, plan_words}

two_stored : (u : List ℕ) (at x y : ℕ) → set (set u at x) (at + 1) y ≡ patched u at (x ∷ y ∷ [])
two_stored u at x y =
    let e : at + 1 ≡ suc at = omega arith in
    rw e (stored u at (x ∷ y ∷ []))

three_stored : (u : List ℕ) (at x y z : ℕ) → set (set (set u at x) (at + 1) y) (at + 2) z ≡ patched u at (x ∷ y ∷ z ∷ [])
three_stored u at x y z =
    let e : at + 1 ≡ suc at = omega arith in
    let f : at + 2 ≡ suc (suc at) = omega arith in
    rw (e, f) (stored u at (x ∷ y ∷ z ∷ []))

pub segment_written : (w : List ℕ) (k : Kernel) (i : ℕ) (u : List ℕ) (x y z : ℕ)
    → u ≡ patched w first_segment (joined (segment_words k) i) → x ∷ y ∷ z ∷ [] ≡ segment_words k i
    → set (set (set u (first_segment + words_per_segment * i) x) (first_segment + words_per_segment * i + 1) y) (first_segment + words_per_segment * i + 2) z ≡ patched w first_segment (joined (segment_words k) (i + 1))
segment_written w k i u x y z p q =
    joined_written (segment_words k) w first_segment i (first_segment + words_per_segment * i) u _ (omega (arith, length_joined (segment_words k) words_per_segment (λ j. refl) i)) p
    (three_stored u (first_segment + words_per_segment * i) x y z ∙ ap (patched u (first_segment + words_per_segment * i)) q)

pub module_written : (w : List ℕ) (m : List Span) (i : ℕ) (u : List ℕ) (x y : ℕ)
    → u ≡ patched w first_module (joined (module_words m) i) → x ∷ y ∷ [] ≡ module_words m i
    → set (set u (first_module + words_per_module * i) x) (first_module + words_per_module * i + 1) y ≡ patched w first_module (joined (module_words m) (i + 1))
module_written w m i u x y p q =
    joined_written (module_words m) w first_module i (first_module + words_per_module * i) u _ (omega (arith, length_joined (module_words m) words_per_module (λ j. refl) i)) p
    (two_stored u (first_module + words_per_module * i) x y ∙ ap (patched u (first_module + words_per_module * i)) q)

-- three parts over zeros, one behind the other
parts_written : (h s m t u v : List ℕ) → length h ≡ first_segment → length s ≡ words_per_segment * max_segments → length m ≡ words_per_module * max_modules
    → t ≡ patched (zeros plan_size) 0 h → u ≡ patched t first_segment s → v ≡ patched u first_module m
    → v ≡ h ++ s ++ m ++ zeros 8
parts_written h s m t u v a b c p q r =
    let l : length (h ++ s) ≡ first_module = length-append h s ∙ omega arith in
    let n : length ((h ++ s) ++ m) ≡ 88 = length-append (h ++ s) m ∙ omega arith in
    let e : u ≡ patched (zeros plan_size) 0 (h ++ s) = rw (q, p, ← a) (rw zero-add at (patched-append (zeros plan_size) 0 h s)) in
    let f : v ≡ patched (zeros plan_size) 0 ((h ++ s) ++ m) = rw (r, e, ← l) (rw zero-add at (patched-append (zeros plan_size) 0 (h ++ s) m)) in
    f ∙ patched_split (zeros plan_size) 0 ((h ++ s) ++ m) (omega arith) ∙ rw (zero-add, n, append_assoc, append_assoc) refl

-- and a number behind them
behind_written : (h s m v : List ℕ) (n : ℕ) → length h ≡ first_segment → length s ≡ words_per_segment * max_segments → length m ≡ words_per_module * max_modules
    → v ≡ h ++ s ++ m ++ zeros 8
    → set v 88 n ≡ h ++ s ++ m ++ (n ∷ zeros 7)
behind_written h s m v n a b c e =
    let l : length (h ++ s ++ m) ≡ 88 = simp length-append (omega arith) in
    rw e (set_at (h ++ s ++ m) 0 (zeros 7) n 88 l)

pub plan_written : (q : Plan) (w t u v : List ℕ)
    → w ≡ zeros plan_size
    → t ≡ patched w 0 (head_words (Ok q))
    → u ≡ patched t first_segment (segments_words q.kernel)
    → v ≡ patched u first_module (modules_words q.modules)
    → set v 88 q.kernel.false_headers ≡ plan_words (Ok q)
unfolding head_words plan_words
plan_written q w t u v z p e r =
    let d : Decision = Ok q in
    let s = segments_words q.kernel in
    let m = modules_words q.modules in
    let a = length_joined (segment_words q.kernel) words_per_segment (λ j. refl) max_segments in
    let b = length_joined (module_words q.modules) words_per_module (λ j. refl) max_modules in
    behind_written (head_words d) s m v q.kernel.false_headers refl a b (parts_written (head_words d) s m t u v refl a b (rw z at p) e r)

-- a refusal's number and item over zeros
pub refusal_words : (r : Refusal) → plan_words (Err r) ≡ refusal_number r ∷ refusal_item r ∷ zeros 94
unfolding plan_words head_words no_plan joined
refusal_words r = refl

pub refusal_written : (w : List ℕ) (r : Refusal) (n i : ℕ) → w ≡ zeros plan_size → n ≡ refusal_number r → i ≡ refusal_item r → set (set w 0 n) 1 i ≡ plan_words (Err r)
refusal_written w r n i z e f = rw (z, e, f, refusal_words r) refl
