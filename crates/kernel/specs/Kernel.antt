-- A kernel of segments.                                                                 rule: KERNEL
--     max_segments, no_segment, no_kernel    the most segments, and zeros
--     kernel_with                            the kernel of these segments
--     segment_no, extent_no                  the segment of an index, and its extent
-- Assumes nothing.
use Rattle.std.specs.Prelude.{false, List, ◌++◌, ℕ, ◌-◌, length, get_or, replicate}
use Rattle.address.specs.declared.PhysAddr.{PhysAddr}
use Rattle.address.specs.declared.Span.{Span}
use Rattle.kernel.specs.declared.Segment.{Segment}
use Rattle.kernel.specs.declared.FoundHeader.{FoundHeader}
use Rattle.kernel.specs.declared.Kernel.{Kernel}

-- at most so many segments
abbrev pub max_segments : ℕ
max_segments = 16

abbrev pub no_segment : Segment
no_segment = record { start = record { 0 = 0 }; load_end = record { 0 = 0 }; extent_end = record { 0 = 0 }; offset = record { 0 = 0 } }

abbrev pub no_kernel : Kernel
no_kernel = record { header = record { 0 = 0 }; false_headers = 0; pages = false; entry = record { 0 = 0 }; segments = replicate max_segments no_segment; count = 0 }

-- these segments, zeros past the last
abbrev pub places_of : List Segment → List Segment
places_of ss = ss ++ replicate (max_segments - length ss) no_segment

-- the kernel of the header found, with its entry and these segments
unfoldable pub kernel_with : FoundHeader → PhysAddr → List Segment → Kernel
kernel_with found entry ss =
    record {
      header = found.offset;
      false_headers = found.false_headers;
      pages = found.pages;
      entry = entry;
      segments = places_of ss;
      count = length ss;
    }

abbrev pub segment_no : Kernel → ℕ → Segment
segment_no k i = get_or k.segments i no_segment

-- a segment's extent runs from its start to its end, zeros included
abbrev pub extent_no : Kernel → ℕ → Span
extent_no k i = record { start = (segment_no k i).start; end = (segment_no k i).extent_end }
