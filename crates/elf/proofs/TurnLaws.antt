-- A turn of the loop that gathers the segments of a table.
--     Gathered                                    the segments among the entries passed stand in their places
--     gathered_none, gathered_one, gathered_on    no entry yet; one more that is a segment; one that is not
--     gathered_all                                all entries
-- Assumes nothing.
use Rattle.std.proofs.Common.{◌≡◌, refl, Bool, true, false, List, [], ◌∷◌, ℕ, ◌+◌, ◌<◌, arith, length, length-append, set, replicate}
use Rattle.laws.specs.Passing.{passing}
use Rattle.kernel.specs.declared.Segment.{Segment}
use Rattle.kernel.specs.declared.FoundHeader.{FoundHeader}
use Rattle.kernel.specs.declared.Kernel.{Kernel}
use Rattle.kernel.specs.Kernel.{max_segments, no_segment, places_of, kernel_with}
use Rattle.kernel.specs.KernelLaws.{places_more}
use Rattle.elf.specs.declared.read.ElfHeader.{ElfHeader}
use Rattle.elf.specs.declared.read.ProgramHeader.{ProgramHeader}
use Rattle.elf.specs.Elf.{program_header_no}
use Rattle.elf.specs.Segments.{is_segment, segment_of, segments_among, elf_kernel}
use Rattle.elf.specs.Read.{HeaderRead}
use Rattle.elf.specs.SegmentsLaws.{among_taken, among_left}

pub record Gathered (image : List ℕ) (i : ℕ) (segments : List Segment) (count : ℕ) : Type 0 where
  pub places : segments ≡ places_of (segments_among image i)
  pub taken : count ≡ length (segments_among image i)

pub gathered_none : (image : List ℕ) (s : Segment) → s ≡ no_segment → Gathered image 0 (replicate max_segments s) 0
unfolding segments_among passing
gathered_none image s e = record { places = rw e; taken = refl }

module _ (image : List ℕ) (i : ℕ) (segments : List Segment) (count : ℕ) (g : Gathered image i segments count) (p : ProgramHeader) (r : Bool) (e : p ≡ program_header_no image i) (f : r ≡ is_segment p) where
  pub gathered_one : count < max_segments → (s : Segment) → r ≡ true → s ≡ segment_of p → Gathered image (i + 1) (set segments count s) (count + 1)
  gathered_one l s t h =
      let u : is_segment (program_header_no image i) ≡ true = rw (← e, ← f) t in
      record {
        places = rw (g.places, g.taken, h, e, among_taken image i u) (places_more (segments_among image i) (segment_of (program_header_no image i)) (omega (arith, g.taken)));
        taken = rw (among_taken image i u) (omega (arith, g.taken, length-append (segments_among image i) (segment_of (program_header_no image i) ∷ [])));
      }

  pub gathered_on : r ≡ false → Gathered image (i + 1) segments count
  gathered_on t =
      let u : is_segment (program_header_no image i) ≡ false = rw (← e, ← f) t in
      record { places = rw (among_left image i u) g.places; taken = rw (among_left image i u) g.taken }

pub gathered_all : (image : List ℕ) (h : ElfHeader) (found : FoundHeader) (i : ℕ) (segments : List Segment) (count : ℕ) → HeaderRead image h → i ≡ h.e_phnum → Gathered image i segments count
    → ◌≡◌ {A = Kernel} (record { header = found.offset; false_headers = found.false_headers; pages = found.pages; entry = h.e_entry; segments = segments; count = count }) (elf_kernel image found)
unfolding elf_kernel kernel_with
gathered_all image h found i segments count r e g = rw (g.places, g.taken, e, r.is)
