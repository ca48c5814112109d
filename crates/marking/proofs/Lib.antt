pub mod Marked
pub mod Rewound
