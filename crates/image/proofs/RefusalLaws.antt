-- Which check refuses an image whose header was found, in the words of the code's tests.
--     no_header, unknown_request_lem, undefined_bits_lem, unknown_kind_lem
--                               checks 6, 7, 25 and 8
--     kind_judged                      the checks on the kind and on the entry are left
--     found_is                         the header found, by its parts
--     by_elf, by_address               the kind is chosen by the flags
--     cut_off_lem, before_image_lem    checks 9 and 10
--     load_left                        the checks on the load are left
--     length_fits, one_few             how long a load is at most, and that one segment is not too many
-- Assumes nothing.
use Rattle.std.specs.Prelude.{Ok, Err, Option, Some, None}
use Rattle.std.proofs.lemmas.Option.{none-some}
use mathlib.Core.Path.{◌≡◌, refl, sym, ◌∙◌}
use mathlib.Core.Bool.{Bool, true, false, cond}
use mathlib.Core.List.{List, ◌++◌}
use Prim.Native.Nat.{ℕ, ◌^◌, ◌≤◌, ◌<◌}
use native.Mathlib.Omega.{arith}
use lib.Dec.{eqb}
use lib.ListN.{length}
use Rattle.laws.specs.Checks.{first_of}
use Rattle.laws.proofs.CheckLaws.{chain_append, chain_first, chain_second, chain, not_to_true, not_to_false}
use Rattle.address.specs.declared.ImageOffset.{ImageOffset}
use Rattle.answer.specs.declared.Refusal.{Refusal}
use Rattle.answer.specs.declared.Refusal.TheVariants.{NoHeader, UnknownRequest, UndefinedBits, NoAddressFields, HeaderCutOff, LoadBeforeImage}
use Rattle.header.specs.Header.{header}
use Rattle.header.specs.FalseHeader.{false_headers}
use Rattle.kernel.specs.declared.FoundHeader.{FoundHeader}
use Rattle.kernel.specs.Kernel.{max_segments, kernel_with}
use Rattle.kernel.specs.Checks.{entry_checks}
use Rattle.kernel.specs.Judge.{with_entry}
use Rattle.elf.specs.Segments.{elf_kernel}
use Rattle.elf.specs.Checks.{elf_checks}
use Rattle.image.specs.declared.load.AddressFields.{AddressFields}
use Rattle.image.specs.Load.{flags_at, fields_at, on_pages, load_offset, load_length}
use Rattle.image.specs.Narrow.{Narrow}
use Rattle.image.specs.Judged.{unknown_request, undefined_bits, no_addresses, unknown_kind, cut_off, before_image, header_flags, found_header, is_addressed, header_checks, load_checks, field_checks, kind_checks, image_checks, kernel_for, fields_kernel, kernel_of}
use Rattle.image.specs.Judge.{judged}
use Rattle.image.specs.JudgedLaws.{kind_fields, kind_elf, kernel_fields, kernel_elf}

-- what a choice between nothing and an offset was made by
chosen_none : (t : Bool) (x : Option ImageOffset) (y : ImageOffset) → x ≡ cond t None (Some y) → x ≡ None → t ≡ true
chosen_none true x y e f = refl
chosen_none false x y e f = absurd (none-some y (sym f ∙ e))

chosen_one : (t : Bool) (x : Option ImageOffset) (y z : ImageOffset) → x ≡ cond t None (Some y) → x ≡ Some z → (t ≡ false) × (z.0 ≡ y.0)
chosen_one true x y z e f = absurd (none-some z (sym e ∙ f))
chosen_one false x y z e f = (refl, cc)

-- refused by the first check on the header that applies
header_refused : (r : Refusal) (image : List ℕ) → Err r ≡ first_of (header_checks image) (tt {0}) → Err r ≡ judged image
unfolding judged image_checks
header_refused r image f =
    chain_first (header_checks image ++ kind_checks image) (entry_checks (kernel_of image)) r (tt {0}) (kernel_of image)
    (sym (chain_first (header_checks image) (kind_checks image) r (tt {0}) (tt {0}) (sym f)))

pub no_header : (image : List ℕ) (n : ℕ) → header image ≡ None → n ≡ false_headers image → Err (NoHeader n) ≡ judged image
unfolding header_checks
no_header image n e c = header_refused (NoHeader n) image (rw (e, c) (search chain depth 20))

-- a header was found, and its flags were read
pub record FlagsFound (image : List ℕ) (at : ImageOffset) (flags : ℕ) : Type 0 where
  pub found : header image ≡ Some at
  pub read : flags ≡ flags_at image at.0

module _ {image : List ℕ} {at : ImageOffset} {flags : ℕ} (r : FlagsFound image at flags) where
  pub unknown_request_lem : unknown_request flags ≡ true → Err UnknownRequest ≡ judged image
  unfolding header_checks
  unknown_request_lem t = header_refused UnknownRequest image (rw (r.found, ← r.read) (search chain depth 20))

  pub undefined_bits_lem : unknown_request flags ≡ false → undefined_bits flags ≡ true → Err UndefinedBits ≡ judged image
  unfolding header_checks
  undefined_bits_lem u t = header_refused UndefinedBits image (rw (r.found, ← r.read) (search chain depth 20))

  pub unknown_kind_lem : unknown_request flags ≡ false → undefined_bits flags ≡ false → unknown_kind image flags ≡ true → Err NoAddressFields ≡ judged image
  unfolding header_checks
  unknown_kind_lem u d t = header_refused NoAddressFields image (rw (r.found, ← r.read) (search chain depth 20))

  header_passed : unknown_request flags ≡ false → undefined_bits flags ≡ false → unknown_kind image flags ≡ false → Ok (tt {0}) ≡ first_of (header_checks image) (tt {0})
  unfolding header_checks
  header_passed u d t = rw (r.found, ← r.read) (search chain depth 20)

  -- the checks on the kind and on the entry are left
  pub kind_judged : unknown_request flags ≡ false → undefined_bits flags ≡ false → unknown_kind image flags ≡ false → with_entry (first_of (kind_checks image) (tt {0})) (kernel_of image) ≡ judged image
  unfolding judged image_checks
  kind_judged u d t =
      rw (
        chain_append (header_checks image ++ kind_checks image) (entry_checks (kernel_of image)) (tt {0}) (kernel_of image),
        ← chain_second (header_checks image) (kind_checks image) (tt {0}) (tt {0}) (tt {0}) (sym (header_passed u d t)),
      )
      refl

  -- the header found, by its parts
  pub found_is : (n : ℕ) (pages : Bool) → n ≡ false_headers image → pages ≡ on_pages flags → ◌≡◌ {A = FoundHeader} (record { offset = at; false_headers = n; pages = pages }) (found_header image)
  found_is n pages c p = rw (r.found, c, p, r.read)

  -- the flags that were read choose the kind
  flags_are : header_flags image ≡ flags
  flags_are = rw (r.found, r.read)

  pub by_elf : (found : FoundHeader) → found ≡ found_header image → no_addresses flags ≡ true → with_entry (first_of (elf_checks image (elf_kernel image found)) (tt {0})) (elf_kernel image found) ≡ with_entry (first_of (kind_checks image) (tt {0})) (kernel_of image)
  by_elf found e t =
      let a : is_addressed image ≡ false = not_to_false (no_addresses (header_flags image)) (rw flags_are t) in
      rw (kind_elf image a (tt {0}), kernel_elf image a, e)

  pub by_address : no_addresses flags ≡ false → with_entry (first_of (field_checks image) (tt {0})) (fields_kernel image) ≡ with_entry (first_of (kind_checks image) (tt {0})) (kernel_of image)
  by_address t =
      let a : is_addressed image ≡ true = not_to_true (no_addresses (header_flags image)) (rw flags_are t) in
      rw (kind_fields image a (tt {0}), kernel_fields image a)

-- refused by the first check on address fields that applies
field_refused : (r : Refusal) (image : List ℕ) → Err r ≡ first_of (field_checks image) (tt {0}) → Err r ≡ with_entry (first_of (field_checks image) (tt {0})) (fields_kernel image)
field_refused r image f = rw (← f) refl

pub cut_off_lem : (image : List ℕ) (at : ImageOffset) → header image ≡ Some at → cut_off at.0 (length image) ≡ true → Err HeaderCutOff ≡ with_entry (first_of (field_checks image) (tt {0})) (fields_kernel image)
unfolding field_checks
cut_off_lem image at found t = field_refused HeaderCutOff image (rw found (search chain depth 20))

-- the address fields h of the header found stand in the image and were read
pub record WholeHeader (image : List ℕ) (at : ImageOffset) (h : AddressFields) : Type 0 where
  pub found : header image ≡ Some at
  pub whole : cut_off at.0 (length image) ≡ false
  pub read : h ≡ fields_at image at.0

module _ {image : List ℕ} {at : ImageOffset} {h : AddressFields} (w : WholeHeader image at h) (r : Option ImageOffset) (offset : r ≡ cond (before_image h at.0) None (Some (record { 0 = load_offset h at.0 }))) where
  pub before_image_lem : r ≡ None → Err LoadBeforeImage ≡ with_entry (first_of (field_checks image) (tt {0})) (fields_kernel image)
  unfolding field_checks
  before_image_lem none =
      let t : before_image h at.0 ≡ true = chosen_none _ r _ offset none in
      field_refused LoadBeforeImage image (rw (w.found, ← w.read) (search chain depth 20))

  pub load_left : (o : ImageOffset) (found : FoundHeader) → r ≡ Some o → found ≡ found_header image
      → with_entry (first_of (load_checks h o.0 (load_length h o.0 (length image)) (length image)) (tt {0})) (kernel_for h found o.0 (load_length h o.0 (length image))) ≡ with_entry (first_of (field_checks image) (tt {0})) (fields_kernel image)
  unfolding field_checks fields_kernel
  load_left o found one p =
      let t : before_image h at.0 ≡ false = (chosen_one _ r _ o offset one).0 in
      let q : o.0 ≡ load_offset h at.0 = (chosen_one (before_image h at.0) r (record { 0 = load_offset h at.0 }) o offset one).1 in
      let go : first_of (field_checks image) (tt {0}) ≡ first_of (load_checks h o.0 (load_length h o.0 (length image)) (length image)) (tt {0}) =
      sym (rw (w.found, ← w.read, ← q) (search chain depth 20)) in
      rw (go, p, w.found, ← w.read, ← q)

module _ (h : AddressFields) (offset n : ℕ) (narrow : Narrow h) (fits : n < 2 ^ 63) where
  by_end : (t : Bool) → eqb h.load_end_addr.0 0 ≡ t → load_length h offset n < 2 ^ 63
  unfolding load_length
  by_end true e = rw e (omega arith)
  by_end false e = rw e (omega (arith, narrow.end))

  pub length_fits : load_length h offset n < 2 ^ 63
  length_fits = by_end (eqb h.load_end_addr.0 0) refl

-- one segment is no more than there may be
pub one_few : (h : AddressFields) (found : FoundHeader) (offset len : ℕ) → (kernel_for h found offset len).count ≤ max_segments
unfolding kernel_for kernel_with
one_few h found offset len = omega arith
