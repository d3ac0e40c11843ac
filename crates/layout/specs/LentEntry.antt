-- Entries whose names lie elsewhere.
use Rattle.layout.specs.declared.directory.DirEntry.{DirEntry}
use Rattle.layout.specs.declared.entry.EntryRef.{EntryRef}

-- the entry that is lent
abbrev pub owned_entry : EntryRef → DirEntry
owned_entry e = record { inode = e.inode; kind = e.kind; name = e.name.now }
