-- What is known of an image that no check refuses, and of the kernel that it asks for.
--     judged_load                                         the answer for an image that no check refuses
--     high_sum                                            a header whose sum is 2^33
--     kind_fields, kind_elf, kernel_fields, kernel_elf    which checks the flags choose, and which kernel
--     ImagePassed, image_passed                           no check applies
--     FieldsPassed, fields_passed                         none of those on address fields applies
--     fields_entry_is, elf_entry_is                       14 by either kind
--     GoodKernel, good_kernel                             where its header, its segments and its entry lie
--     announced, calculated, listed                       its header and addresses, by the numbers in the image
-- Assumes nothing.
use Rattle.std.specs.Prelude.{◌≡◌, false, not, ◌&&◌, ◌↔◌, ◌⊎◌, List, [], ◌∷◌, ◌++◌, ℕ, ◌+◌, ◌-◌, ◌/◌, ◌%◌, ◌^◌, ◌≤◌, ◌<◌, eqb, ltb, length, Option, Some, None, Ok, is_ok}
use Rattle.std.proofs.Math.Path.{refl}
use Rattle.std.proofs.Common.{ap, sym, subst, ◌∙◌, ⊎_elim, inl, inr, ltb-false, eq-eqb, ne_eqb}
use Rattle.std.proofs.Math.Bool.{true}
use Rattle.std.proofs.lemmas.Bool.{false≢true, eqb-false, not-true}
use native.Mathlib.Omega.{arith}
use Rattle.laws.specs.Checks.{first_of, only_if, passes}
use Rattle.laws.proofs.CheckLaws.{passes_on, passes_both, check_passed, ok_is, only_true, only_false, only_behind, not_to_true, not_to_false}
use Rattle.laws.proofs.TestLaws.{true_or_false, lt_or_le, or_none_left, or_none_right}
use Rattle.number.specs.Number.{number_at}
use Rattle.address.specs.Span.{Holds}
use Rattle.answer.specs.declared.Refusal.TheVariants.{NoHeader, HeaderCutOff, LoadBeforeImage, LoadPastImage, EntryOutsideLoad}
use Rattle.address.specs.declared.ImageOffset.{ImageOffset}
use Rattle.header.specs.Header.{header_magic, search_limit, short_header, header}
use Rattle.header.specs.FalseHeader.{false_headers}
use Rattle.header.proofs.HeaderLaws.{header_lowest, header_early}
use Rattle.kernel.specs.declared.Kernel.{Kernel}
use Rattle.kernel.specs.Kernel.{max_segments, no_segment, kernel_with, segment_no, extent_no}
use Rattle.kernel.specs.KernelLaws.{kernel_past, GoodSegment}
use Rattle.kernel.specs.Checks.{entry_outside, entry_checks}
use Rattle.kernel.specs.ChecksLaws.{entered, entry_outside_is, extents_apart}
use Rattle.elf.specs.Segments.{elf_kernel}
use Rattle.elf.specs.Checks.{elf_checks}
use Rattle.elf.specs.Tabled.{Tabled}
use Rattle.elf.specs.Elf.{elf_header, program_header_no}
use Rattle.elf.specs.GoodElf.{SegmentAt}
use Rattle.elf.specs.ElfLaws.{tabled, entry_is, elf_passed}
use Rattle.image.specs.declared.load.AddressFields.{AddressFields}
use Rattle.image.specs.Load.{flags_at, fields_at, on_pages, load_length, load_end}
use Rattle.image.specs.Judged.{no_header, offset_of, header_offset, header_flags, found_header, header_fields, first_loaded, count_loaded, undefined_bits, cut_off, before_image, past_image, is_addressed, segment_for, kernel_for, fields_kernel, kernel_of, header_checks, load_checks, field_checks, kind_checks, image_checks}
use Rattle.image.specs.LoadLaws.{offset_inside}
use Rattle.image.specs.Judge.{judged}
use Rattle.image.specs.Calculated.{Announced, Calculated}

-- an image that no check refuses gives its kernel
pub judged_load : (image : List ℕ) → passes (image_checks image) ≡ true → judged image ≡ Ok (kernel_of image)
unfolding judged
judged_load image h = passes_on (image_checks image) (kernel_of image) h

-- flags f and a checksum k that add up with the magic to 2^33: the search finds such a header, and 25 applies to it
pub high_sum : (f k : ℕ) → f < 2 ^ 32 → k < 2 ^ 32 → header_magic + f + k ≡ 2 ^ 33 → undefined_bits f ≡ true
high_sum f k l m e =
    let n : f / 2 ^ 17 % 2 ^ 15 ≡ 0 → ⊥ = λ z. omega arith in
    rw (ne_eqb (f / 2 ^ 17 % 2 ^ 15) 0 n) refl

-- the flags choose between the checks on address fields and those on ELF, and between the kernels
module _ (image : List ℕ) where
  abbrev elf_in : Kernel
  elf_in = elf_kernel image (found_header image)

  module _ (a : is_addressed image ≡ true) where
    pub kind_fields : {A : Type 0} (z : A) → first_of (kind_checks image) z ≡ first_of (field_checks image) z
    unfolding kind_checks
    kind_fields z = rw (a, only_true) (only_behind (field_checks image) (elf_checks image elf_in) z)

    fields_pass : passes (kind_checks image) ≡ passes (field_checks image)
    fields_pass = sym (ok_is (kind_checks image) (kernel_of image)) ∙ ap is_ok (kind_fields (kernel_of image)) ∙ ok_is (field_checks image) (kernel_of image)

    pub kernel_fields : kernel_of image ≡ fields_kernel image
    unfolding kernel_of
    kernel_fields = rw a

  module _ (a : is_addressed image ≡ false) where
    pub kind_elf : {A : Type 0} (z : A) → first_of (kind_checks image) z ≡ first_of (elf_checks image elf_in) z
    unfolding kind_checks
    kind_elf z = rw a (only_false (field_checks image) (only_if true (elf_checks image elf_in)) z ∙ rw only_true)

    elf_pass : passes (kind_checks image) ≡ passes (elf_checks image elf_in)
    elf_pass = sym (ok_is (kind_checks image) elf_in) ∙ ap is_ok (kind_elf elf_in) ∙ ok_is (elf_checks image elf_in) elf_in

    pub kernel_elf : kernel_of image ≡ elf_in
    unfolding kernel_of
    kernel_elf = rw a

-- the conditions of the checks, where they do not hold
there : (r : Option ImageOffset) → no_header r ≡ false → r ≡ Some (record { 0 = offset_of r })
there None e = absurd (false≢true (sym e))
there (Some o) e = refl

not_before : (h : AddressFields) (o : ℕ) → before_image h o ≡ false → (h.load_addr.0 ≤ h.header_addr.0) × (h.header_addr.0 - h.load_addr.0 ≤ o)
not_before h o e =
    let p = ltb h.header_addr.0 h.load_addr.0 in
    let q = ltb o (h.header_addr.0 - h.load_addr.0) in
    (ltb-false _ _ (or_none_left p q e), ltb-false _ _ (or_none_right p q e))

module _ (h : AddressFields) (offset len n : ℕ) (e : past_image h offset len n ≡ false) where
  not_past : offset + len ≤ n
  not_past = ltb-false _ _ (or_none_right (not (eqb h.load_end_addr.0 0) && ltb h.load_end_addr.0 h.load_addr.0) (ltb n (offset + len)) e)

  not_early : (h.load_end_addr.0 ≡ 0 → ⊥) → h.load_addr.0 ≤ h.load_end_addr.0
  not_early z =
      let f = or_none_left (not (eqb h.load_end_addr.0 0) && ltb h.load_end_addr.0 h.load_addr.0) (ltb n (offset + len)) e in
      ltb-false _ _ (rw (ne_eqb h.load_end_addr.0 0 z) at f)

-- bit 0 of the flags, as a test
odd : (f : ℕ) → (on_pages f ≡ true) ↔ (f % 2 ≡ 1)
odd f = (
  λ e. let n = eqb-false (f % 2) 0 (not-true _ e) in omega arith,
  λ e. let n : f % 2 ≡ 0 → ⊥ = λ z. omega arith in rw (ne_eqb (f % 2) 0 n) refl,
)

-- no check applies to the image
pub record ImagePassed (image : List ℕ) : Type 0 where
  pub found : no_header (header image) ≡ false
  pub kind : passes (kind_checks image) ≡ true
  pub entered : entry_outside (kernel_of image) ≡ false

pub image_passed : (image : List ℕ) → passes (image_checks image) ≡ true → ImagePassed image
unfolding image_checks header_checks entry_checks
image_passed image e =
    let a = passes_both (header_checks image ++ kind_checks image) (entry_checks (kernel_of image)) e in
    let b = passes_both (header_checks image) (kind_checks image) a.0 in
    record {
      found = (check_passed (no_header (header image)) (NoHeader (false_headers image)) _ b.0).0;
      kind = b.1;
      entered = (check_passed (entry_outside (kernel_of image)) EntryOutsideLoad [] a.1).0;
    }

-- no check on address fields applies
pub record FieldsPassed (image : List ℕ) : Type 0 where
  pub whole : cut_off (header_offset image) (length image) ≡ false
  pub after : before_image (header_fields image) (header_offset image) ≡ false
  pub within : past_image (header_fields image) (first_loaded image) (count_loaded image) (length image) ≡ false

pub fields_passed : (image : List ℕ) → passes (field_checks image) ≡ true → FieldsPassed image
unfolding field_checks load_checks
fields_passed image e =
    let h = header_fields image in
    let r9 = check_passed (cut_off (header_offset image) (length image)) HeaderCutOff _ e in
    let r10 = check_passed (before_image h (header_offset image)) LoadBeforeImage _ r9.1 in
    let r12 = check_passed (past_image h (first_loaded image) (count_loaded image) (length image)) LoadPastImage _ r10.1 in
    record { whole = r9.0; after = r10.0; within = r12.0 }

-- what is known of the kernel of an image that no check refuses
pub record GoodKernel (image : List ℕ) (k : Kernel) : Type 0 where
  -- the header is the one that the search finds
  pub found : header image ≡ Some k.header
  pub counted : k.false_headers ≡ false_headers image
  pub early : k.header.0 + short_header ≤ search_limit
  pub pages : k.pages ≡ on_pages (flags_at image k.header.0)
  -- its segments, and zeros past the last
  pub few : k.count ≤ max_segments
  pub rest : (i : ℕ) → k.count ≤ i → segment_no k i ≡ no_segment
  pub segments : (i : ℕ) → i < k.count → GoodSegment image (segment_no k i)
  pub apart : (i j : ℕ) → i < j → j < k.count → (a : ℕ) → Holds (extent_no k i) a → Holds (extent_no k j) a → ⊥
  -- the entry lies among the load bytes of one of them
  pub entered : (i : ℕ) × (i < k.count) × ((segment_no k i).start.0 ≤ k.entry.0) × (k.entry.0 < (segment_no k i).load_end.0)

one_entry_is : (image : List ℕ) → (entry_outside (fields_kernel image) ≡ true) ↔ (((header_fields image).entry_addr.0 < (header_fields image).load_addr.0) ⊎ (load_end (header_fields image) (count_loaded image) ≤ (header_fields image).entry_addr.0))
unfolding fields_kernel kernel_for kernel_with
one_entry_is image =
    let h = header_fields image in
    let is = entry_outside_is (fields_kernel image) in (
      λ e.
          ⊎_elim
          (λ (l : h.entry_addr.0 < h.load_addr.0). inl l)
          (λ (l : h.load_addr.0 ≤ h.entry_addr.0).
          ⊎_elim
          (λ (m : h.entry_addr.0 < load_end h (count_loaded image)). absurd (is.0 e 0 (omega arith) (l, m)))
          (λ (m : load_end h (count_loaded image) ≤ h.entry_addr.0). inr m)
          (lt_or_le h.entry_addr.0 (load_end h (count_loaded image))))
          (lt_or_le h.entry_addr.0 h.load_addr.0),
      λ o. is.1 (λ i l p.
          let z : i ≡ 0 = omega arith in
          let q = rw z at p in
          ⊎_elim (λ (u : h.entry_addr.0 < h.load_addr.0). omega (arith, q.0)) (λ (u : load_end h (count_loaded image) ≤ h.entry_addr.0). omega (arith, q.1)) o),
    )

-- 14 by address fields, and by the table of an ELF image
pub fields_entry_is : (image : List ℕ) → is_addressed image ≡ true
    → (entry_outside (kernel_of image) ≡ true) ↔ (((header_fields image).entry_addr.0 < (header_fields image).load_addr.0) ⊎ (load_end (header_fields image) (count_loaded image) ≤ (header_fields image).entry_addr.0))
fields_entry_is image a = rw (kernel_fields image a) (one_entry_is image)

pub elf_entry_is : (image : List ℕ) → is_addressed image ≡ false
    → (entry_outside (kernel_of image) ≡ true) ↔ ((i : ℕ) → SegmentAt image i → ((program_header_no image i).p_paddr.0 ≤ (elf_header image).e_entry.0) × ((elf_header image).e_entry.0 < (program_header_no image i).p_paddr.0 + (program_header_no image i).p_filesz) → ⊥)
elf_entry_is image a = rw (kernel_elf image a) (entry_is image (found_header image))

module _ (image : List ℕ) (e : passes (image_checks image) ≡ true) where
  -- by address fields
  module _ (a : is_addressed image ≡ true) where
    by_fields : FieldsPassed image
    by_fields = fields_passed image (sym (fields_pass image a) ∙ (image_passed image e).kind)

    entry_in_lem : (i : ℕ) × (i < (fields_kernel image).count) × ((segment_no (fields_kernel image) i).start.0 ≤ (fields_kernel image).entry.0) × ((fields_kernel image).entry.0 < (segment_no (fields_kernel image) i).load_end.0)
    entry_in_lem = entered (fields_kernel image) (rw (kernel_fields image a) at (image_passed image e).entered)

    -- the load is not empty, as the entry lies in it
    load_some : (segment_no (fields_kernel image) 0).start.0 < (segment_no (fields_kernel image) 0).load_end.0
    unfolding fields_kernel kernel_for kernel_with
    load_some =
        let z : entry_in_lem.0 ≡ 0 = omega (arith, entry_in_lem.1) in
        let low = rw z at entry_in_lem.2 in
        let high = rw z at entry_in_lem.3 in
        omega (arith, low, high)

    one_segment : (i : ℕ) → i < (fields_kernel image).count → GoodSegment image (segment_no (fields_kernel image) i)
    unfolding fields_kernel kernel_for kernel_with
    one_segment i l =
        let z : i ≡ 0 = omega arith in
        let p = not_past (header_fields image) (first_loaded image) (count_loaded image) (length image) by_fields.within in
        rw z (record { loaded = omega arith; end = omega arith; some = omega (arith, load_some); inside = λ j u. omega arith })

    fields_good : GoodKernel image (fields_kernel image)
    unfolding fields_kernel kernel_for kernel_with
    fields_good =
        let f = there (header image) (image_passed image e).found in
        record {
          found = f;
          counted = refl;
          early = header_early image (fields_kernel image).header f;
          pages = refl;
          few = omega arith;
          rest = kernel_past (found_header image) (header_fields image).entry_addr (segment_for (header_fields image) (first_loaded image) (count_loaded image) ∷ []);
          segments = one_segment;
          apart = λ i j l m. absurd (omega arith);
          entered = entry_in_lem;
        }

    by_numbers : Calculated image (fields_kernel image)
    unfolding fields_kernel kernel_for kernel_with fields_at load_length
    by_numbers =
        let b = not_before (header_fields image) (header_offset image) by_fields.after in
        record {
          one = refl;
          rest = fields_good.rest;
          start = refl;
          offset = omega arith;
          whole = λ z. rw (eq-eqb _ 0 z) (omega (arith, offset_inside (header_fields image) (header_offset image) (length image) by_fields.whole));
          given = λ z. rw (ne_eqb _ 0 z) (omega (arith, not_early (header_fields image) (first_loaded image) (count_loaded image) (length image) by_fields.within z));
          some = load_some;
          end = refl;
          entry = refl;
        }

  -- as an ELF image
  module _ (a : is_addressed image ≡ false) where
    elf_good : GoodKernel image (elf_in image)
    unfolding elf_kernel kernel_with
    elf_good =
        let f = there (header image) (image_passed image e).found in
        let p = elf_passed image (found_header image) (sym (elf_pass image a) ∙ (image_passed image e).kind) in
        let t = tabled image (found_header image) in
        record {
          found = f;
          counted = refl;
          early = header_early image (elf_in image).header f;
          pages = refl;
          few = p.few;
          rest = t.rest;
          segments = p.segments;
          apart = extents_apart (elf_in image) p.apart;
          entered = entered (elf_in image) (rw (kernel_elf image a) at (image_passed image e).entered);
        }

  pub good_kernel : GoodKernel image (kernel_of image)
  good_kernel =
      ⊎_elim
      (λ (a : is_addressed image ≡ true). subst (GoodKernel image) (sym (kernel_fields image a)) (fields_good a))
      (λ (a : is_addressed image ≡ false). subst (GoodKernel image) (sym (kernel_elf image a)) (elf_good a))
      (true_or_false (is_addressed image))

  pub announced : Announced image (kernel_of image)
  announced =
      let g = good_kernel in
      let l = header_lowest image (kernel_of image).header g.found in
      record { header = l.0; lowest = l.1; pages = rw g.pages (odd (flags_at image (kernel_of image).header.0)) }

  -- the flags that choose the kind are those of the header
  kind_is : header_flags image ≡ flags_at image (kernel_of image).header.0
  kind_is = ap (λ (r : Option ImageOffset). flags_at image (offset_of r)) good_kernel.found

  pub calculated : number_at 4 image ((kernel_of image).header.0 + 4) / 2 ^ 16 % 2 ≡ 1 → Calculated image (kernel_of image)
  calculated b =
      let n : header_flags image / 2 ^ 16 % 2 ≡ 0 → ⊥ = λ z. omega (arith, kind_is) in
      let a : is_addressed image ≡ true = not_to_true _ (ne_eqb _ 0 n) in
      subst (Calculated image) (sym (kernel_fields image a)) (by_numbers a)

  pub listed : number_at 4 image ((kernel_of image).header.0 + 4) / 2 ^ 16 % 2 ≡ 0 → Tabled image (kernel_of image)
  listed b =
      let z : header_flags image / 2 ^ 16 % 2 ≡ 0 = omega (arith, kind_is) in
      let a : is_addressed image ≡ false = not_to_false _ (eq-eqb _ 0 z) in
      subst (Tabled image) (sym (kernel_elf image a)) (tabled image (found_header image))
