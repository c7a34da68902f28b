-- The headers stand one after another.
use Rattle.std.proofs.Common.{◌≡◌, ℕ, List, ◌++◌, replicate}
use Rattle.elf_format.specs.Example.{section_of}
use Rattle.demo_input.proofs.Appending.{and_then_same}
use Rattle.demo_input.proofs.object.push_section_headers.Goals as goal

pub returns : goal.returns
returns c =
    let s : List ℕ = c.args.buffer.now.items in
    let s1 : List ℕ = c.extend_from_slice.new.self.items in
    let s2 : List ℕ = c.extend_from_slice-2.new.self.items in
    let s3 : List ℕ = c.extend_from_slice-3.new.self.items in
    let s4 : List ℕ = c.extend_from_slice-4.new.self.items in
    let s5 : List ℕ = c.extend_from_slice-5.new.self.items in
    let h0 : List ℕ = replicate 64 0 in
    let h1 : List ℕ = section_of 1 1 0 64 12 in
    let h2 : List ℕ = section_of 13 1 0 76 40 in
    let h3 : List ℕ = section_of 33 1 6 116 16 in
    let h4 : List ℕ = section_of 39 3 0 132 49 in
    let e1 : s1 ≡ s ++ h0 = c.in_ok-extend_from_slice.ensures.items in
    let e2 : s2 ≡ s ++ (h0 ++ h1) = and_then_same s s1 s2 h0 c.section_header.result h1 e1 c.in_ok-extend_from_slice-2.ensures.items c.section_header.ensures in
    let e3 : s3 ≡ s ++ (h0 ++ h1 ++ h2) = and_then_same s s2 s3 (h0 ++ h1) c.section_header-2.result h2 e2 c.in_ok-extend_from_slice-3.ensures.items c.section_header-2.ensures in
    let e4 : s4 ≡ s ++ (h0 ++ h1 ++ h2 ++ h3) = and_then_same s s3 s4 (h0 ++ h1 ++ h2) c.section_header-3.result h3 e3 c.in_ok-extend_from_slice-4.ensures.items c.section_header-3.ensures in
    and_then_same s s4 s5 (h0 ++ h1 ++ h2 ++ h3) c.section_header-4.result h4 e4 c.in_ok-extend_from_slice-5.ensures.items c.section_header-4.ensures
