-- What the checks of an ELF image say, and what its table holds.
--     few_segments              there are no more segments than program headers
--     segment_is                which entries of the table are segments
--     tabled                    the kernel's segments are those of the table
--     formed_is, elf_good_is    18, by the rules of an ELF image
--     headers_good_is           19, by the rules of a program header
--     segments_apart_is         20, address by address
--     entry_is                  14, by the table
--     ElfPassed, elf_passed     no check applies: each segment is good, and no two share an address
-- Assumes nothing.
use Rattle.std.specs.Prelude.{◌≡◌, Bool, true, false, not, ◌&&◌, ◌||◌, List, [], ◌∷◌, ◌↔◌, ℕ, ◌+◌, ◌*◌, ◌≤◌, ◌<◌, eqb, leb, length, get_or}
use Rattle.std.proofs.Math.Path.{refl}
use Rattle.std.proofs.Common.{sym, ap, ◌∙◌, ⊎_elim, arith, leb-true, le-leb, eqb-true, eq-eqb, ne_eqb}
use Rattle.std.proofs.lemmas.Bool.{false≢true, eqb-false, not-false}
use Rattle.laws.specs.Passing.{passing}
use Rattle.laws.proofs.PassingLaws.{passing_most, passing_at, passing_rising, passing_every}
use Rattle.laws.specs.Tests.{any}
use Rattle.laws.specs.Checks.{passes, ◌gives◌}
use Rattle.laws.proofs.TestLaws.{true_or_false, lt_or_le, and_left, and_right, and_is, not_is, eqb_is, or_none_left, or_none_right, none_is}
use Rattle.address.specs.Span.{Holds}
use Rattle.answer.specs.declared.Refusal.TheVariants.{BadElf, BadProgramHeader, SegmentsOverlap}
use Rattle.laws.proofs.CheckLaws.{check_passed}
use Rattle.kernel.specs.declared.Segment.{Segment}
use Rattle.kernel.specs.declared.FoundHeader.{FoundHeader}
use Rattle.kernel.specs.declared.Kernel.{Kernel}
use Rattle.kernel.specs.Kernel.{max_segments, no_segment, kernel_with, segment_no, extent_no}
use Rattle.kernel.specs.KernelLaws.{kernel_at, kernel_past, GoodSegment}
use Rattle.kernel.specs.Checks.{entry_outside, extents_overlap}
use Rattle.kernel.specs.ChecksLaws.{entry_outside_is, extents_apart, apart_extents}
use Rattle.elf.specs.declared.read.ElfHeader.{ElfHeader}
use Rattle.elf.specs.declared.read.ProgramHeader.{ProgramHeader}
use Rattle.elf.specs.Elf.{elf_header_size, program_header_size, elf_header, program_header_no}
use Rattle.elf.specs.Segments.{is_loadable, is_segment, is_segment_no, table_segment, segments_among, elf_kernel}
use Rattle.elf.specs.SegmentsLaws.{among_most, among_length, among_at}
use Rattle.elf.specs.Read.{HeaderRead}
use Rattle.elf.specs.GoodElf.{SegmentAt, GoodElfHeader, GoodElf, GoodHeader, Takes}
use Rattle.elf.specs.Tabled.{Tabled}
use Rattle.elf.specs.Checks.{right_kind, table_fits, well_formed, fits, bad_header, bad_no, elf_checks}

pub few_segments : (image : List ℕ) (found : FoundHeader) (h : ElfHeader) → HeaderRead image h → h.e_phnum ≤ max_segments → (elf_kernel image found).count ≤ max_segments
unfolding elf_kernel kernel_with
few_segments image found h r l = rw (← r.is) (omega (arith, among_most image h.e_phnum))

-- a program header is a segment
pub segment_is : (p : ProgramHeader) → (is_segment p ≡ true) ↔ ((p.p_type ≡ 1) × (p.p_memsz ≡ 0 → ⊥))
unfolding is_segment
segment_is p = and_is (is_loadable p) (not (eqb p.p_memsz 0)) (eqb_is p.p_type 1) (not_is (eqb p.p_memsz 0) (eqb_is p.p_memsz 0))

-- the kernel's segments are those of the table
module _ (image : List ℕ) (found : FoundHeader) where
  abbrev indices : List ℕ
  indices = passing (is_segment_no image) (elf_header image).e_phnum

  count_is : (elf_kernel image found).count ≡ length indices
  unfolding elf_kernel kernel_with
  count_is = among_length image (elf_header image).e_phnum

  abbrev index_of : ℕ → ℕ
  index_of i = get_or indices i 0

  segment_at : (i : ℕ) → i < (elf_kernel image found).count → segment_no (elf_kernel image found) i ≡ table_segment image (index_of i)
  unfolding elf_kernel kernel_with
  segment_at i l =
      kernel_at found (elf_header image).e_entry (segments_among image (elf_header image).e_phnum) i
      ∙ among_at image (elf_header image).e_phnum i l

  listed_at : (i : ℕ) → i < (elf_kernel image found).count → SegmentAt image (index_of i)
  listed_at i l =
      let r = passing_at (is_segment_no image) (elf_header image).e_phnum i (omega (arith, count_is)) in
      let s = (segment_is (program_header_no image (index_of i))).0 r.1 in
      record { entry = r.0; loadable = s.0; some = s.1 }

  past : (i : ℕ) → (elf_kernel image found).count ≤ i → segment_no (elf_kernel image found) i ≡ no_segment
  unfolding elf_kernel kernel_with
  past i l = kernel_past found (elf_header image).e_entry (segments_among image (elf_header image).e_phnum) i l

  entry_at : (elf_kernel image found).entry.0 ≡ (elf_header image).e_entry.0
  unfolding elf_kernel kernel_with
  entry_at = refl

  pub tabled : Tabled image (elf_kernel image found)
  tabled =
      record {
        index = index_of;
        listed = listed_at;
        rising = λ i j l m. passing_rising (is_segment_no image) (elf_header image).e_phnum i j l (omega (arith, count_is));
        every = λ n s.
            let r = passing_every (is_segment_no image) (elf_header image).e_phnum n s.entry ((segment_is (program_header_no image n)).1 (s.loadable, s.some)) in
            (r.0, omega (arith, count_is, r.1), r.2);
        rest = past;
        start = λ i l. ap (λ (s : Segment). s.start.0) (segment_at i l);
        load_end = λ i l. ap (λ (s : Segment). s.load_end.0) (segment_at i l);
        end = λ i l. ap (λ (s : Segment). s.extent_end.0) (segment_at i l);
        offset = λ i l. ap (λ (s : Segment). s.offset.0) (segment_at i l);
        entry = entry_at;
      }

-- 18: a header that is well formed
pub formed_is : (h : ElfHeader) (n : ℕ) → (well_formed h n ≡ true) ↔ GoodElfHeader h n
unfolding well_formed right_kind table_fits
formed_is h n =
    let class = eqb h.ei_class 1 in
    let order = eqb h.ei_data 1 in
    let kind = eqb h.e_type 2 in
    let machine = eqb h.e_machine 3 in
    let size = eqb h.e_phentsize program_header_size in
    let inside = leb (h.e_phoff.0 + program_header_size * h.e_phnum) n in
    let few = leb h.e_phnum max_segments in (
      λ e.
          let a = and_left (leb elf_header_size n && right_kind h) (table_fits h n) e in
          let t = and_right (leb elf_header_size n && right_kind h) (table_fits h n) e in
          let k = and_right (leb elf_header_size n) (right_kind h) a in
          let k4 = and_left (class && order && kind && machine) size k in
          let k3 = and_left (class && order && kind) machine k4 in
          let k2 = and_left (class && order) kind k3 in
          record {
            long = leb-true _ _ (and_left (leb elf_header_size n) (right_kind h) a);
            class = eqb-true _ _ (and_left class order k2);
            order = eqb-true _ _ (and_right class order k2);
            kind = eqb-true _ _ (and_right (class && order) kind k3);
            machine = eqb-true _ _ (and_right (class && order && kind) machine k4);
            size = eqb-true _ _ (and_right (class && order && kind && machine) size k);
            table = leb-true _ _ (and_left inside few t);
            few = leb-true _ _ (and_right inside few t);
          },
      λ f. rw (le-leb _ _ f.long, eq-eqb _ _ f.class, eq-eqb _ _ f.order, eq-eqb _ _ f.kind, eq-eqb _ _ f.machine, eq-eqb _ _ f.size, le-leb _ _ f.table, le-leb _ _ f.few),
    )

module _ (image : List ℕ) (found : FoundHeader) where
  -- there is a segment exactly where the kernel has one
  some_is : (eqb (elf_kernel image found).count 0 ≡ false) ↔ ((i : ℕ) × SegmentAt image i)
  some_is =
      let t = tabled image found in (
        λ e. let n : (elf_kernel image found).count ≡ 0 → ⊥ = eqb-false _ _ e in (t.index 0, t.listed 0 (omega arith)),
        λ s. let r = t.every s.0 s.1 in ne_eqb _ _ (λ (z : (elf_kernel image found).count ≡ 0). omega (arith, r.1)),
      )

  pub elf_good_is : ((not (well_formed (elf_header image) (length image)) || eqb (elf_kernel image found).count 0) ≡ false) ↔ GoodElf image
  elf_good_is =
      let w = well_formed (elf_header image) (length image) in
      let none = eqb (elf_kernel image found).count 0 in (
        λ e.
            record { header = (formed_is (elf_header image) (length image)).0 (not-false w (or_none_left (not w) none e)); some = some_is.0 (or_none_right (not w) none e) },
        λ g. rw ((formed_is (elf_header image) (length image)).1 g.header) (some_is.1 g.some),
      )

-- 19
fits_is : (p : ProgramHeader) (n : ℕ) → (fits p n ≡ true) ↔ GoodHeader p n
unfolding fits
fits_is p n =
    let sizes = leb p.p_filesz p.p_memsz in
    let none = eqb p.p_filesz 0 in
    let inside = leb (p.p_offset.0 + p.p_filesz) n in (
      λ e. record {
        sizes = leb-true _ _ (and_left sizes (none || inside) e);
        inside = λ z. leb-true _ _ (rw (ne_eqb p.p_filesz 0 z) at (and_right sizes (none || inside) e));
      },
      λ g. rw (le-leb _ _ g.sizes) (
          ⊎_elim
          (λ (t : none ≡ true). rw t)
          (λ (t : none ≡ false). rw t (le-leb _ _ (g.inside (eqb-false _ _ t))))
          (true_or_false none)),
    )

pub headers_good_is : (image : List ℕ) → (any (bad_no image) (elf_header image).e_phnum ≡ false) ↔ ((i : ℕ) → i < (elf_header image).e_phnum → (program_header_no image i).p_type ≡ 1 → GoodHeader (program_header_no image i) (length image))
unfolding bad_no bad_header
headers_good_is image =
    let is : (i : ℕ) → i < (elf_header image).e_phnum → (bad_no image i ≡ true) ↔ (((program_header_no image i).p_type ≡ 1) × (GoodHeader (program_header_no image i) (length image) → ⊥)) =
    λ i l. and_is (is_loadable (program_header_no image i)) (not (fits (program_header_no image i) (length image))) (eqb_is _ 1) (not_is (fits (program_header_no image i) (length image)) (fits_is (program_header_no image i) (length image))) in
    let n = none_is (bad_no image) (elf_header image).e_phnum is in (
      λ e i l t. good i (λ b. n.0 e i l (t, b)),
      λ h. n.1 (λ i l b. b.1 (h i l b.0)),
    )
  where
    -- whether a header is good is decided
    good : (i : ℕ) → ((GoodHeader (program_header_no image i) (length image) → ⊥) → ⊥) → GoodHeader (program_header_no image i) (length image)
    good i h =
        let t = fits (program_header_no image i) (length image) in
        let is = fits_is (program_header_no image i) (length image) in
        ⊎_elim
        (λ (e : t ≡ true). is.0 e)
        (λ (e : t ≡ false). absurd (h (λ g. false≢true (sym e ∙ is.1 g))))
        (true_or_false t)

-- 20 and 14
module _ (image : List ℕ) (found : FoundHeader) where
  takes : (i : ℕ) → i < (elf_kernel image found).count → (a : ℕ) → Holds (extent_no (elf_kernel image found) i) a ↔ Takes (program_header_no image ((tabled image found).index i)) a
  takes i l a =
      let t = tabled image found in
      (λ h. (omega (arith, t.start i l), omega (arith, t.end i l)), λ h. (omega (arith, t.start i l), omega (arith, t.end i l)))

  -- no segment is empty
  pub extent_some : (i : ℕ) → i < (elf_kernel image found).count → (extent_no (elf_kernel image found) i).start.0 < (extent_no (elf_kernel image found) i).end.0
  extent_some i l =
      let t = tabled image found in
      let n : (program_header_no image (t.index i)).p_memsz ≡ 0 → ⊥ = (t.listed i l).some in
      omega (arith, t.start i l, t.end i l, n)

  -- segments come in the order of their entries
  in_order : (i j : ℕ) → i < (elf_kernel image found).count → (tabled image found).index i < (tabled image found).index j → i < j
  in_order i j l m =
      let t = tabled image found in
      ⊎_elim
      (λ (u : i < j). u)
      (λ (u : j ≤ i).
      ⊎_elim
      (λ (v : j < i). absurd (omega (arith, t.rising j i v l)))
      (λ (v : i ≤ j). let e : i ≡ j = omega arith in let f = ap t.index e in absurd (omega (arith, f)))
      (lt_or_le j i))
      (lt_or_le i j)

  pub segments_apart_is : (extents_overlap (elf_kernel image found) ≡ false) ↔ ((i j : ℕ) → i < j → SegmentAt image i → SegmentAt image j → (a : ℕ) → Takes (program_header_no image i) a → Takes (program_header_no image j) a → ⊥)
  segments_apart_is =
      let t = tabled image found in (
        λ e i j l m n a p q.
            let u = t.every i m in
            let v = t.every j n in
            extents_apart (elf_kernel image found) e u.0 v.0 (in_order u.0 v.0 u.1 (rw (u.2, v.2) l)) v.1 a ((takes u.0 u.1 a).1 (rw u.2 p)) ((takes v.0 v.1 a).1 (rw v.2 q)),
        λ h. apart_extents (elf_kernel image found) extent_some
            (λ i j l m a p q.
            let u : i < (elf_kernel image found).count = omega arith in
            h (t.index i) (t.index j) (t.rising i j l m) (t.listed i u) (t.listed j m) a ((takes i u a).0 p) ((takes j m a).0 q)),
      )

  pub entry_is : (entry_outside (elf_kernel image found) ≡ true)
      ↔ ((i : ℕ) → SegmentAt image i → ((program_header_no image i).p_paddr.0 ≤ (elf_header image).e_entry.0) × ((elf_header image).e_entry.0 < (program_header_no image i).p_paddr.0 + (program_header_no image i).p_filesz) → ⊥)
  entry_is =
      let t = tabled image found in
      let is = entry_outside_is (elf_kernel image found) in (
        λ e i m h.
            let u = t.every i m in
            let s : (segment_no (elf_kernel image found) u.0).start.0 ≡ (program_header_no image i).p_paddr.0 = t.start u.0 u.1 ∙ ap (λ (n : ℕ). (program_header_no image n).p_paddr.0) u.2 in
            let f : (segment_no (elf_kernel image found) u.0).load_end.0 ≡ (program_header_no image i).p_paddr.0 + (program_header_no image i).p_filesz = t.load_end u.0 u.1 ∙ ap (λ (n : ℕ). (program_header_no image n).p_paddr.0 + (program_header_no image n).p_filesz) u.2 in
            is.0 e u.0 u.1 (omega (arith, t.entry), omega (arith, t.entry)),
        λ h. is.1 (λ i l p. h (t.index i) (t.listed i l) (omega (arith, t.start i l, t.entry), omega (arith, t.load_end i l, t.entry))),
      )

-- no check applies to the image
pub record ElfPassed (image : List ℕ) (k : Kernel) : Type 0 where
  pub few : k.count ≤ max_segments
  pub segments : (i : ℕ) → i < k.count → GoodSegment image (segment_no k i)
  pub apart : extents_overlap k ≡ false

module _ (image : List ℕ) (found : FoundHeader) (e : passes (elf_checks image (elf_kernel image found)) ≡ true) where
  abbrev unformed : Bool
  unformed = not (well_formed (elf_header image) (length image)) || eqb (elf_kernel image found).count 0

  passed_18 : (unformed ≡ false) × (passes (any (bad_no image) (elf_header image).e_phnum gives BadProgramHeader ∷ extents_overlap (elf_kernel image found) gives SegmentsOverlap ∷ []) ≡ true)
  unfolding elf_checks
  passed_18 = check_passed unformed BadElf _ e

  passed_19 : (any (bad_no image) (elf_header image).e_phnum ≡ false) × (passes (extents_overlap (elf_kernel image found) gives SegmentsOverlap ∷ []) ≡ true)
  passed_19 = check_passed (any (bad_no image) (elf_header image).e_phnum) BadProgramHeader _ passed_18.1

  good_segment : (i : ℕ) → i < (elf_kernel image found).count → GoodSegment image (segment_no (elf_kernel image found) i)
  good_segment i l =
      let t = tabled image found in
      let s = t.listed i l in
      let g = (headers_good_is image).0 passed_19.0 (t.index i) s.entry s.loadable in
      record {
        loaded = omega (arith, t.start i l, t.load_end i l);
        end = omega (arith, t.load_end i l, t.end i l, g.sizes);
        some = extent_some image found i l;
        inside = λ j u.
            let v = g.inside (λ (z : (program_header_no image (t.index i)).p_filesz ≡ 0). omega (arith, t.start i l, t.load_end i l)) in
            omega (arith, t.start i l, t.load_end i l, t.offset i l, v);
      }

  pub elf_passed : ElfPassed image (elf_kernel image found)
  elf_passed =
      record {
        few = omega (arith, entries);
        segments = good_segment;
        apart = (check_passed (extents_overlap (elf_kernel image found)) SegmentsOverlap _ passed_19.1).0;
      }
    where
      entries : (elf_kernel image found).count ≤ 16
      entries = omega (arith, ((elf_good_is image found).0 passed_18.0).header.few, count_is image found, passing_most (is_segment_no image) (elf_header image).e_phnum)
